-- The results of a batch of jobs.
use Rattle.std.specs.Prelude.{◌≡◌, ℕ, ◌==◌, cond, ℤ, List, [], ◌∷◌, length, map, Option, Some, None}
use Rattle.std.specs.List.{range_with_len}
use Rattle.pb_base.specs.declared.event.Event.{Event}
use Rattle.pb_base.specs.declared.event.Event.TheVariants.{Granted, Returned, Printed, Faulted, Finished}
use Rattle.pb_base.specs.Steppers.{State, IsFinished}
use Rattle.pb_code.specs.Code.{CodeProcess, code_over}
use Rattle.pb_code.specs.Whole.{Code, code_opening}
use Rattle.pb_history.specs.Entries.{Entry, events_of}
use Rattle.pb_history.specs.Leads.{Leads}

-- the result of a job after an event: what it printed, or else its result before
abbrev pub result_after : (job : ℕ) → Option ℤ → Event → Option ℤ
result_after job before (Granted pick bundle) = before
result_after job before (Returned pick bundle) = before
result_after job before (Printed pick value) = cond (pick.process == job) (Some value) before
result_after job before (Faulted pick kind) = before
result_after job before (Finished process) = before

-- the same after several events
abbrev pub result_from : (job : ℕ) → Option ℤ → List Event → Option ℤ
result_from job before [] = before
result_from job before (event ∷ events) = result_from job (result_after job before event) events

-- what a job printed last, if it printed anything
abbrev pub last_print : (job : ℕ) → List Event → Option ℤ
last_print job events = result_from job None events

-- the same of each job
abbrev pub last_prints : (jobs : ℕ) → List Event → List (Option ℤ)
last_prints jobs events = map (λ job. last_print job events) (range_with_len 0 jobs)

-- picks of the code lead from its start to a state in which every job has ended or faulted, and the results
-- are what each job printed last, in the order of the jobs
pub record AreResults (code : Code) (results : List (Option ℤ)) : Type 0 where
  pub entries : List Entry
  pub end : State CodeProcess
  pub leads : Leads code (code_opening code) entries end
  pub over : IsFinished code_over end
  pub printed : results ≡ last_prints (length code.processes) (events_of entries)
