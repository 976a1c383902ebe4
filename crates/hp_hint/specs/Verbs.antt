-- The first words of lines, as hp_script reads them. This project's own.
use Rattle.hp_script.specs.declared.verb.Verb.{Verb as ReadVerb}
use Rattle.hp_script.specs.declared.verb.Verb.TheVariants as read
use Rattle.hp_hint.specs.declared.verb.Verb.{Verb}
use Rattle.hp_hint.specs.declared.verb.Verb.TheVariants as verb

abbrev pub read_as : Verb → ReadVerb
read_as verb.Cpus = read.Cpus
read_as verb.Absent = read.Absent
read_as verb.Sub = read.Sub
read_as verb.Rule = read.Rule
read_as verb.Schedule = read.Schedule
read_as verb.Actor = read.Actor
read_as (verb.Operation first) = read.Operation first
