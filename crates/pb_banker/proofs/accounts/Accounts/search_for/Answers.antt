use Rattle.std.proofs.Common.{◌≡◌, List, ℕ, length, take, drop, sym, subst, arith, ◌∙◌}
use Rattle.std.specs.List.Sorted.{IsPermutation}
use Rattle.std.proofs.lemmas.List.{take_at}
use Rattle.std.proofs.lemmas.List.FromFn.{length-range_with_len}
use Rattle.std.proofs.lemmas.List.Sorted.{IsPermutation-trans, length_permutation}
use Rattle.pb_base.specs.Banker.{everyone, processes}
use Rattle.pb_banker.specs.Accounts.{state_of}
use Rattle.pb_banker.proofs.Found.{nobody_found, found_few, stuck_asker}
use Rattle.pb_banker.proofs.TableCells.{processes_of}
use Rattle.pb_banker.proofs.Walk.{IsAvailable-start}
use Rattle.pb_banker.proofs.accounts.Accounts.search_for.Goals as goal

pub loop-found-init : goal.loop-found-init
loop-found-init c =
    record {
      everyone = c.requires.everyone;
      found = nobody_found c.args.self.now c.requires.sound;
      left = IsAvailable-start c.args.self.now c.requires.sound;
    }

pub returns-then-found-before-clause-unsafe_state : goal.returns-then-found-before-clause-unsafe_state
returns-then-found-before-clause-unsafe_state c waits =
    stuck_asker c.args.self.now c.requires.sound c.go_through.new.found c.go_through.ensures.found c.go_through.new.available
    c.go_through.ensures.left (c.go_through.ensures.stuck c.if-found-before.true) c.args.asker c.requires.asker waits

pub loop-found-smaller : goal.loop-found-smaller
loop-found-smaller c =
    let few = found_few c.args.self.now c.requires.sound c.loop-found.found c.loop-found.invariant.found c.args.asker c.requires.asker c.loop-found-test.true in
    let more = c.go_through.ensures.more in
    let other = c.if-found-before.false in
    omega (arith, few, more, other)

pub loop-found-preserved : goal.loop-found-preserved
loop-found-preserved c =
    let n = processes_of c.args.self.now c.requires.sound in
    let many : length (take c.args.self.now.processes c.loop-found.way) ≡ length (everyone (state_of c.args.self.now)) =
    length_permutation (everyone (state_of c.args.self.now)) (take c.args.self.now.processes c.loop-found.way) c.loop-found.invariant.everyone in
    let count : length (everyone (state_of c.args.self.now)) ≡ processes (state_of c.args.self.now) =
    length-range_with_len 0 (processes (state_of c.args.self.now)) in
    record {
      everyone = subst (λ (xs : List ℕ). IsPermutation (everyone (state_of c.args.self.now)) xs)
          (sym (take_at c.reverse.new.self (drop c.args.self.now.processes c.loop-found.way) c.args.self.now.processes
          (c.reverse.ensures.len ∙ many ∙ count ∙ n)))
          (IsPermutation-trans (everyone (state_of c.args.self.now)) (take c.args.self.now.processes c.loop-found.way) c.reverse.new.self
          c.loop-found.invariant.everyone c.reverse.ensures.permutation);
      found = c.go_through.ensures.found;
      left = c.go_through.ensures.left;
    }
