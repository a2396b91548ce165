use Rattle.std.proofs.Common.{◌≡◌, length, arith, refl}
use Rattle.pb_c_bank.proofs.SeatedRows.{seated_from, empty_row}
use Rattle.pb_c_bank.proofs.seated.are_seated.Goals as goal

pub returns-then-not-is_empty_row : goal.returns-then-not-is_empty_row
returns-then-not-is_empty_row c = (
  λ no. cc,
  λ h. c.if-not-is_empty_row.ensures.1
      (empty_row c.args.accounts.now c.args.used.now c.requires h c.loop-p.p (omega (arith, c.if-p-accounts.false)) (λ u. cc)),
)

pub returns : goal.returns
returns c =
    let long : length c.args.used.now ≡ 64 = omega arith in (
      λ yes. seated_from c.args.accounts.now c.args.used.now c.requires long
          (λ k l u. c.loop-p.invariant.rows k (omega (arith, l)) u)
          (λ k l m fresh. c.loop-p.invariant.free k (omega (arith, l)) m fresh),
      λ h. refl,
    )
