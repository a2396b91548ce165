use Rattle.std.proofs.Common.{◌<◌, ℕ}
use Rattle.pb_banker.specs.Lenders.{lender_state}
use Rattle.pb_base.specs.Banker.{cash}
use Rattle.pb_base.specs.Bundle.{amount_in}
use Rattle.pb_circles.specs.Links.{IsHolder}
use Rattle.pb_circles.proofs.link.link_of.Given as goal

abbrev pub invariant-loop-r : goal.invariant-loop-r
invariant-loop-r l = (r holder : ℕ) → r < l.r → cash (lender_state l.bank) r < amount_in l.bundle r
    → IsHolder (lender_state l.bank) l.among l.p r holder → ⊥
