-- Why an arm does not go on, or may.
use Rattle.std.specs.Prelude.{ℕ}
use Rattle.pb_base.specs.Steppers.{Bundle}
use Rattle.pb_code.specs.Code.{Take}
use Rattle.pb_machine.specs.Turns.{StandsIn}
use Rattle.pb_debug.specs.Value.{Debugging, state_of, bank_state}
use Rattle.pb_debug_texts.specs.Reasons.{IsReasonBy}
use Rattle.pb_debug_texts.specs.declared.why.Why.{Why}
use Rattle.pb_debug_texts.specs.declared.why.Why.TheVariants.{NotAsking, Cash, Order, Rest, Granted}

-- an arm of a process is live, at a request for a bundle
abbrev pub Asks : Debugging → (p a : ℕ) → Bundle → Type 0
Asks d p a bundle = StandsIn d.verified.code (state_of d) (record { process = p; arm = a }) (Take bundle)

-- why an arm does not go on, or may: it asks for nothing, or the reason of its request under the lending
abbrev pub IsWhy : Debugging → (p a : ℕ) → Why → Type 0
IsWhy d p a NotAsking = (bundle : Bundle) → Asks d p a bundle → ⊥
IsWhy d p a (Cash resource amount) =
    (bundle : Bundle) × Asks d p a bundle × IsReasonBy d.lending (bank_state d) p bundle (Cash resource amount)
IsWhy d p a (Order order) =
    (bundle : Bundle) × Asks d p a bundle × IsReasonBy d.lending (bank_state d) p bundle (Order order)
IsWhy d p a (Rest rest) =
    (bundle : Bundle) × Asks d p a bundle × IsReasonBy d.lending (bank_state d) p bundle (Rest rest)
IsWhy d p a Granted = (bundle : Bundle) × Asks d p a bundle × IsReasonBy d.lending (bank_state d) p bundle Granted
