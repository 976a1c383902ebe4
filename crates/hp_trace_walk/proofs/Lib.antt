mod EntryLaws
mod AskLaws
mod PlaceLaws
mod TableHolds
mod TableBack
mod TableFound
