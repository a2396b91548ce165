-- What was printed last, event by event, and job by job.
use Rattle.std.proofs.Common.{◌≡◌, ℕ, ◌+◌, ℤ, List, [], ◌∷◌, ◌++◌, take, Option, Some, None, refl, ap}
use Rattle.std.proofs.Common.{◌∙◌, arith}
use Rattle.std.proofs.lemmas.List.{take_more}
use Rattle.std.proofs.lemmas.List.FromFn.{map-range_with_len_more}
use Rattle.std.proofs.lemmas.Option.{get_or_from_slice_get, slice_get_within}
use Rattle.std.specs.Prelude.{slice_get}
use Rattle.pb_base.specs.declared.event.Event.{Event}
use Rattle.pb_example_batch.specs.Results.{last_print, last_prints, result_after, result_from}

result_behind : (job : ℕ) (before : Option ℤ) (events : List Event) (event : Event)
    → result_from job before (events ++ event ∷ []) ≡ result_after job (result_from job before events) event
result_behind job before [] event = refl
result_behind job before (e ∷ events) event = result_behind job (result_after job before e) events event

pub one_more_event : (job i : ℕ) (events : List Event) (event : Event) → slice_get events i ≡ Some event
    → last_print job (take (i + 1) events) ≡ result_after job (last_print job (take i events)) event
one_more_event job i events event there =
    ap (last_print job) (take_more events i event (slice_get_within events i event there)
    ∙ ap (λ (e : Event). take i events ++ e ∷ []) (get_or_from_slice_get events i event event there))
    ∙ result_behind job None (take i events) event

pub one_more_job : (jobs : ℕ) (events : List Event)
    → last_prints (jobs + 1) events ≡ last_prints jobs events ++ last_print jobs events ∷ []
one_more_job jobs events = map-range_with_len_more (λ job. last_print job events) 0 jobs jobs (omega arith)
