use Rattle.std.proofs.Common.{◌≡◌, ℕ, ◌*◌, ◌++◌, ◌∷◌, [], length, refl, sym, ap, ◌∙◌, subst, arith}
use Rattle.pb_debug_positions.specs.Walks.{AreCheckpoints, IsCheckpoint}
use Rattle.pb_debug_positions.proofs.Walks.{one_checkpoint_more}
use Rattle.pb_debug_positions.proofs.checkpoints.keep.Goals as goal

pub returns-clause-checkpoints : goal.returns-clause-checkpoints
returns-clause-checkpoints c = λ lending v picks h here.
    let ms = c.args.checkpoints.now.items in
    let m = c.in_ok-copy.copy in
    let items : c.push.new.self.items ≡ ms ++ m ∷ [] = c.in_ok-push.ensures.items in
    let len = c.len.ensures in
    let many = c.args.checkpoints.now.ok.0 in
    let same : c.len.result ≡ length ms = omega (arith, len, many) in
    let times = ap (λ (n : ℕ). n * c.args.interval) same in
    let not = c.if-at-next.false in
    let le = c.requires.before in
    let at : c.args.at ≡ length ms * c.args.interval = omega (arith, times, not, le) in
    let copied : IsCheckpoint lending v picks c.args.at m = record {
      stands = record {
        machine = c.in_ok-copy.ensures.machine lending v here.stands.machine;
        state = c.in_ok-copy.ensures.state ∙ here.stands.state;
      };
      within = here.within;
    } in
    subst (AreCheckpoints lending v picks c.args.interval) (sym items)
    (one_checkpoint_more v picks c.args.interval (length ms) ms m h refl (subst (λ (k : ℕ). IsCheckpoint lending v picks k m) at copied))
