-- What a session says of what is named.
use Rattle.std.proofs.Common.{◌≡◌, ℕ, ◌<◌, List, length}
use Rattle.std.proofs.Common.{refl, sym, ap, ◌∙◌, subst, arith}
use Rattle.std.specs.Prelude.{All}
use Rattle.std.proofs.lemmas.List.Elements.{All-filter}
use Rattle.std.proofs.lemmas.List.FromFn.{length-range_with_len, get_or-range_with_len}
use Rattle.std.proofs.lemmas.List.Sorted.{All-permutation}
use Rattle.std.proofs.lemmas.Option.{slice_get_within, get_or_from_slice_get}
use Rattle.pb_base.specs.Banker.{BankerState, processes, everyone, with_loan}
use Rattle.pb_base.specs.declared.pair.Pair.{Pair}
use Rattle.pb_verifier.specs.declared.fault.VerifyFault.TheVariants.{OutOfLimits}
use Rattle.pb_debug.specs.Refusals.{HasNoArm, IsMissing}
use Rattle.pb_debug.specs.Value.{Debugging, IsPosition, state_of, bank_state}
use Rattle.pb_debug.specs.declared.fault.DebugFault.{DebugFault}
use Rattle.pb_debug.specs.declared.fault.DebugFault.TheVariants.{PastEnd, NoProcess, NoArm, BadCommand, NoMemory}
use Rattle.pb_debug.specs.declared.fault.DebugFault.TheVariants.{Device}
use Rattle.pb_debug_texts.specs.Texts.{HasNamesOf}
use Rattle.pb_debug.specs.Whys.{IsWhy}
use Rattle.pb_debug_texts.specs.declared.why.Why.{Why}
use Rattle.pb_debug_texts.specs.declared.why.Why.TheVariants.{NotAsking, Cash, Order, Rest, Granted}
use Rattle.pb_machine.proofs.Requests.{request_below}
use Rattle.pb_debug.proofs.Requests.{order_of, over_cash, rest_of}
use Rattle.pb_debug.proofs.Positions.{as_many, reached}

pub missing_arm : (d : Debugging) (p a : ℕ) (fault : DebugFault) → p < length (state_of d).processes → IsMissing d p a fault → HasNoArm d p a
missing_arm d p a PastEnd lt h = elim h [ ]
missing_arm d p a NoProcess lt h = absurd (omega (arith, lt, h))
missing_arm d p a NoArm lt h = h
missing_arm d p a BadCommand lt h = elim h [ ]
missing_arm d p a NoMemory lt h = elim h [ ]
missing_arm d p a Device lt h = elim h [ ]

module _ (d : Debugging) (h : IsPosition d) where
  -- each process has a name, and each resource
  pub names_many : length d.verified.code.names.processes ≡ length (state_of d).processes
  names_many = (h.verified.faultless OutOfLimits).process_names.all ∙ sym (as_many d h)

  everyone_named : (s : BankerState) → s.claims ≡ d.verified.code.claims → All (λ p. p < length d.verified.code.names.processes) (everyone s)
  everyone_named s same k e lt =
      let limits = h.verified.faultless OutOfLimits in
      let n = length-range_with_len 0 (processes s) in
      let within : k < processes s = omega (arith, lt, n) in
      let at = get_or-range_with_len 0 (processes s) k e within in
      let many : processes s ≡ length d.verified.code.names.processes =
      ap (λ (rows : List (List ℕ)). length rows) same ∙ (limits.rows ∙ sym limits.process_names.all) in
      omega (arith, at, within, many)

  -- all that a reason speaks of has a name
  pub why_named : (p a : ℕ) (why : Why) → IsWhy d p a why → HasNamesOf d.verified.code.names why
  why_named p a NotAsking why = tt
  why_named p a (Cash resource amount) (bundle, asking, reason) =
      let first = over_cash d.lending (bank_state d) p bundle resource amount reason in
      let limits = h.verified.faultless OutOfLimits in
      let all = request_below d.lending d.verified h.verified (state_of d) (reached d h) p a asking.of asking.process asking.code_there asking.there bundle asking.stands in
      let lt = slice_get_within bundle first.place first.pair first.there in
      let one = all first.place first.pair lt in
      let is = ap (λ (pair : Pair). pair.resource) (get_or_from_slice_get bundle first.place first.pair first.pair first.there) in
      omega (arith, one, is, first.resource_is, limits.resource_names.all)
  why_named p a (Order order) (bundle, asking, reason) =
      let least = order_of d.lending (bank_state d) p bundle order reason in
      let s = with_loan (bank_state d) p bundle in
      All-permutation (λ p. p < length d.verified.code.names.processes) (everyone s) order.items least.finishes.everyone (everyone_named s refl)
  why_named p a (Rest rest) (bundle, asking, reason) =
      let stuck = rest_of d.lending (bank_state d) p bundle rest reason in
      let s = with_loan (bank_state d) p bundle in
      subst (λ (ps : List ℕ). All (λ p. p < length d.verified.code.names.processes) ps) (sym stuck.members)
      (All-filter stuck.set (λ p. p < length d.verified.code.names.processes) (everyone s) (everyone_named s refl))
  why_named p a Granted why = tt
