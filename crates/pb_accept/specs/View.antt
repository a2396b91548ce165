-- What is said, as it is held, seen as plain data.
use Rattle.pb_accept.specs.Sayings.{Saying, Accepted, Refused, Claim, NoCode, NoPicks, BeyondFirst, Text, Shows, Ended, Limit, Threads}
use Rattle.pb_accept.specs.Sayings.{Warns, Recorded, TooLong, LongOutput, NoMemory}
use Rattle.pb_accept.specs.declared.said.Said.{Said}
use Rattle.pb_accept.specs.declared.said.Said.TheVariants as given
use Rattle.pb_base.specs.Lines.{names_view}
use Rattle.pb_warnings.specs.Warnings.{warning}

-- one thing that is said
abbrev pub said_view : Said → Saying
said_view given.Accepted = Accepted
said_view (given.Refused fault) = Refused fault.now
said_view (given.Claim claim) = Claim claim.process.now claim.amount claim.resource.now
said_view (given.NoCode fault) = NoCode fault
said_view (given.NoPicks fault) = NoPicks fault
said_view given.BeyondFirst = BeyondFirst
said_view (given.Text text) = Text text.now
said_view (given.Recorded recording) = Recorded recording.text.now (names_view recording.names.now) recording.picks.now
said_view (given.Shows shown) = Shows (names_view shown.names.now) shown.event.now
said_view (given.Ended ending) = Ended ending
said_view (given.Limit steps) = Limit steps
said_view (given.Warns given) = Warns (warning given.now)
said_view given.Threads = Threads
said_view given.TooLong = TooLong
said_view given.LongOutput = LongOutput
said_view given.NoMemory = NoMemory
