-- The forms of the lines of `run`, `plan`, `outcomes` and most other commands.
use Rattle.std.specs.Prelude.{List, [], ◌∷◌, codes}
use Rattle.pb_json_lines.specs.PlainForms.{PlainForm, form, form_with}
use Rattle.pb_json_lines.specs.declared.form.Section.TheVariants.{Alone, Opens, Heading, Processes, Integers, Prints}
use Rattle.pb_json_lines.specs.declared.form.Section.TheVariants.{Holds, Asks, Picks}

-- the lines that belong to an outcome or a deadlock
unfoldable pub parts : List PlainForm
parts =
    form Processes (codes "ended") (codes "P ended")
    ∷ form Processes (codes "faulted") (codes "P faulted")
    ∷ form Processes (codes "waits") (codes "P waits")
    ∷ form Integers (codes "integer") (codes "P.X V")
    ∷ form Heading (codes "printed") (codes "printed")
    ∷ form Prints (codes "print") (codes "P.A print V")
    ∷ form Holds (codes "holds") (codes "P holds M R")
    ∷ form Asks (codes "asks") (codes "P.A asksB")
    ∷ form Heading (codes "reached by") (codes "reached by")
    ∷ form Picks (codes "picks") (codes "P.A Q")
    ∷ []

-- all others, in the order in which they are tried
unfoldable pub program_forms : List PlainForm
program_forms =
    form Alone (codes "grant") (codes "P.A grantB")
    ∷ form Alone (codes "return") (codes "P.A returnB")
    ∷ form Alone (codes "print") (codes "P.A print V")
    ∷ form Alone (codes "fault") (codes "P.A fault F")
    ∷ form Alone (codes "end") (codes "P end")
    ∷ form Alone (codes "done") (codes "done")
    ∷ form Alone (codes "open") (codes "open")
    ∷ form Alone (codes "deadlocked") (codes "deadlock")
    ∷ form Alone (codes "limit") (codes "limit S")
    ∷ form Alone (codes "memory") (codes "memory")
    ∷ form Alone (codes "threads") (codes "threads")
    ∷ form Alone (codes "ok") (codes "ok")
    ∷ form Alone (codes "claim") (codes "P claim K R")
    ∷ form Alone (codes "claim") (codes "P claim K R linesH")
    ∷ form Alone (codes "claim") (codes "P of text 9 claim K R")
    ∷ form Alone (codes "claim") (codes "P of text 9 claim K R linesH")
    ∷ form Alone (codes "resource") (codes "R capital G least L free E")
    ∷ form Alone (codes "bottleneck") (codes "bottleneck R")
    ∷ form Alone (codes "no request waits") (codes "no request waits")
    ∷ form Alone (codes "nest") (codes "P holds T line J around U line Y")
    ∷ form Alone (codes "nest") (codes "P of text 9 holds T line J around U line Y")
    ∷ form_with (codes "order") (codes "\"text\":\"\"") (codes "order")
    ∷ form Alone (codes "order") (codes "order W")
    ∷ form Alone (codes "no order") (codes "no order")
    ∷ form Alone (codes "refused") (codes "refused C")
    ∷ form Alone (codes "refused") (codes "refused C at I")
    ∷ form Alone (codes "refused") (codes "refused C P R claim K capital G")
    ∷ form Alone (codes "refused") (codes "refused C W")
    ∷ form Alone (codes "refused") (codes "text 9 refused C")
    ∷ form Alone (codes "refused") (codes "text 9 refused C at I")
    ∷ form Alone (codes "refused") (codes "text 9 refused C W")
    ∷ form Opens (codes "outcome") (codes "outcome N")
    ∷ form Opens (codes "deadlock") (codes "deadlock N")
    ∷ form Opens (codes "endless") (codes "endless")
    ∷ form Opens (codes "round") (codes "round")
    ∷ form Alone (codes "picks") (codes "P.A Q")
    ∷ form_with (codes "outcomes") (codes "\"deadlocks\":0,\"endless\":false") (codes "O outcomeZ")
    ∷ form_with (codes "outcomes") (codes "\"deadlocks\":0,\"endless\":true") (codes "O outcomeZ, some runs do not end")
    ∷ form_with (codes "outcomes") (codes "\"endless\":false") (codes "O outcomeZ, D deadlockZ")
    ∷ form_with (codes "outcomes") (codes "\"endless\":true") (codes "O outcomeZ, D deadlockZ, some runs do not end")
    ∷ form_with (codes "others") (codes "\"of\":\"configurations\"") (codes "more than S configurations, there may be others")
    ∷ form_with (codes "others") (codes "\"of\":\"picks\"") (codes "more than S picks, there may be others")
    ∷ form_with (codes "others") (codes "\"of\":\"deadlocks\"") (codes "first deadlock, there may be others")
    ∷ form_with (codes "others") (codes "\"of\":\"configurations\"") (codes "more than S configurations")
    ∷ form_with (codes "others") (codes "\"of\":\"picks\"") (codes "more than S picks")
    ∷ form Alone (codes "every fair run ends") (codes "every fair run ends")
    ∷ form Alone (codes "some fair runs do not end") (codes "some fair runs do not end")
    ∷ form Alone (codes "every run ends") (codes "every run ends")
    ∷ form Alone (codes "some runs do not end") (codes "some runs do not end")
    ∷ form_with (codes "others") (codes "\"of\":\"fair runs\"") (codes "more than S configurations for fair runs")
    ∷ form Alone (codes "no outcome") (codes "no outcome N")
    ∷ form Alone (codes "no deadlock") (codes "no deadlock N")
    ∷ form Alone (codes "as expected") (codes "as expected")
    ∷ form Alone (codes "not as expected") (codes "not as expected: W")
    ∷ []
