-- What comes of a turn of the schedule.
use Rattle.std.specs.Prelude.{◌≡◌, ℕ, Some, None}
use Rattle.pb_base.specs.declared.pick.Pick.{Pick}
use Rattle.pb_base.specs.declared.step.Step.{Step}
use Rattle.pb_base.specs.declared.step.Step.TheVariants.{Silent, Did, NotEnabled}
use Rattle.pb_base.specs.Steppers.{State, IsFinished}
use Rattle.pb_code.specs.Code.{CodeProcess, code_over}
use Rattle.pb_code.specs.Reached.{CodeMoves, CodeStays}
use Rattle.pb_code.specs.Whole.{Code}

-- an enabled pick of this job was made, and shows this; or the job has none
abbrev pub MakesSomeOf : Code → State CodeProcess → (job : ℕ) → Step → State CodeProcess → Type 0
MakesSomeOf code before job Silent after =
    (pick : Pick) × (pick.process ≡ job) × CodeMoves code before pick None after
MakesSomeOf code before job (Did event) after =
    (pick : Pick) × (pick.process ≡ job) × CodeMoves code before pick (Some event) after
MakesSomeOf code before job NotEnabled after =
    ((pick : Pick) → pick.process ≡ job → CodeStays code before pick) × (after ≡ before)

-- an enabled pick was made, and shows this; or every job has ended or faulted
abbrev pub MakesSome : Code → State CodeProcess → Step → State CodeProcess → Type 0
MakesSome code before Silent after = (pick : Pick) × CodeMoves code before pick None after
MakesSome code before (Did event) after = (pick : Pick) × CodeMoves code before pick (Some event) after
MakesSome code before NotEnabled after = IsFinished code_over before × (after ≡ before)
