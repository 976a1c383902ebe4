mod NestLaws
mod PieceForms
mod VerdictLaws
mod FailedLaws
