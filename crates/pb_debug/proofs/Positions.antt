-- What is known of a debugger at its position.
use Rattle.std.proofs.Common.{Vec, Global, ◌≡◌, ℕ, ◌<◌, ◌≤◌, length, map, Some, sym}
use Rattle.std.proofs.Common.{◌∙◌, arith}
use Rattle.std.specs.Prelude.{slice_get}
use Rattle.std.proofs.lemmas.List.{length-map}
use Rattle.std.proofs.lemmas.Option.{slice_get_within}
use Rattle.pb_base.proofs.Lists.{get_some}
use Rattle.pb_code.specs.Code.{CodeProcess}
use Rattle.pb_code.specs.declared.labels.ProcessLabels.{ProcessLabels as GivenLabels}
use Rattle.pb_code.specs.Limits.{FitLabels}
use Rattle.pb_code.specs.Reached.{CodeReachesBy}
use Rattle.pb_code.specs.View.{process_labels_view}
use Rattle.pb_machine.proofs.EitherLending.{good_reached}
use Rattle.pb_verifier.specs.declared.fault.VerifyFault.TheVariants.{OutOfLimits}
use Rattle.pb_debug.specs.Value.{Debugging, IsPosition, state_of}
use Rattle.pb_history.proofs.Positions.{position_reached}

module _ (d : Debugging) (h : IsPosition d) where
  pub reached : CodeReachesBy d.lending d.verified.code (state_of d)
  reached = position_reached d.verified.code d.picks d.position h.enabled

  pub as_many : length (state_of d).processes ≡ length d.verified.code.processes
  as_many = (good_reached d.verified.code h.verified.faultless d.lending (state_of d) reached).count

  module _ (p : ℕ) (process : CodeProcess) (there : slice_get (state_of d).processes p ≡ Some process) where
    pub in_code : p < length d.verified.code.processes
    in_code = let lt = slice_get_within (state_of d).processes p process there in let n = as_many in omega (arith, lt, n)

    pub in_labels : p < length d.labels
    in_labels = let lt = in_code in omega (arith, lt, h.fit.all)

    -- the number of an arm is small
    pub few_arms : length process.threads ≤ 64
    few_arms =
        let of = get_some d.verified.code.processes p in_code in
        let threads = ((good_reached d.verified.code h.verified.faultless d.lending (state_of d) reached).fit p of.0 process of.1 there).threads in
        let small = ((h.verified.faultless OutOfLimits).each p of.0 of.1).some_arms.1 in
        omega (arith, threads, small)

    -- as many names as integers
    pub named_vars : (l : GivenLabels) → slice_get d.labels p ≡ Some (process_labels_view l) → length l.integers.items ≡ length process.vars
    named_vars l labels_there =
        let of = get_some d.verified.code.processes p in_code in
        let fit : FitLabels of.0 (process_labels_view l) = h.fit.each p of.0 (process_labels_view l) of.1 labels_there in
        let vars = ((good_reached d.verified.code h.verified.faultless d.lending (state_of d) reached).fit p of.0 process of.1 there).vars in
        let names : length (map (λ (name : Vec ℕ Global). name.items) l.integers.items) ≡ length l.integers.items =
        length-map l.integers.items (λ name. name.items) in
        sym names ∙ (fit.integers.all ∙ sym vars)
