-- The status of `outcomes --fair`, by what is told of fair runs after all else.
use Rattle.pb_command_io.specs.declared.status.Status.{Status}
use Rattle.pb_command_io.specs.declared.status.Status.TheVariants.{Limit}
use Rattle.pb_search_fair.specs.declared.runs.FairRuns.{FairRuns}
use Rattle.pb_search_fair.specs.declared.runs.FairRuns.TheVariants.{AllEnd, SomeDoNotEnd, TooMany}

-- the status: what it was, but if there were too many configurations
abbrev pub status_with : Status → FairRuns → Status
status_with status AllEnd = status
status_with status SomeDoNotEnd = status
status_with status TooMany = Limit
