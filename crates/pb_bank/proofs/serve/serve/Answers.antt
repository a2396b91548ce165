use Rattle.std.proofs.Common.{◌<◌, List, [], length, arith, sym, subst, refl, ◌∙◌, append-nil}
use Rattle.pb_bank.specs.declared.request.Request.{Request}
use Rattle.pb_bank.specs.Queues.{Serves, nothing}
use Rattle.pb_bank.proofs.QueueTexts.{serves_next}
use Rattle.pb_bank.proofs.serve.serve.Goals as goal

pub loop-wish-init : goal.loop-wish-init
loop-wish-init c =
    let s = c.args.bank.now.state in
    record {
      served = (
        [],
        subst (λ (ws : List Request). Serves s [] [] ws s) (sym c.new-waiting.ensures.items) nothing,
        sym (append-nil c.args.out.now.items),
      );
      used = refl;
      claims = refl;
      capital = refl;
    }

pub loop-wish-preserved : goal.loop-wish-preserved
loop-wish-preserved c =
    let l : c.loop-wish.wish-index < length c.args.wishes.now = omega arith in
    let before = c.loop-wish.invariant.served in
    record {
      served =
          serves_next c.args.bank.now.state c.args.wishes.now c.loop-wish.wish-index c.wish-item.result before.0
          c.loop-wish.waiting.items c.serve_wish.new.waiting.items c.loop-wish.bank.state c.serve_wish.new.bank.state c.args.out.now.items
          c.loop-wish.out.items c.serve_wish.new.out.items l c.wish-item.is before.1 before.2 c.in_ok-serve_wish.ensures.served;
      used = c.serve_wish.ensures.used ∙ c.loop-wish.invariant.used;
      claims = c.serve_wish.ensures.claims ∙ c.loop-wish.invariant.claims;
      capital = c.serve_wish.ensures.capital ∙ c.loop-wish.invariant.capital;
    }
