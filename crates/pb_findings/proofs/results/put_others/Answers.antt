use Rattle.std.proofs.Common.{◌≡◌, ◌≤◌, List, ℕ, [], ◌∷◌, length, arith, refl}
use Rattle.pb_findings.specs.Sarif.{others_sarif, some_related}
use Rattle.pb_findings.specs.declared.spot.Spot.{Spot}
use Rattle.pb_findings.proofs.ObjectLemmas.{on_ok}
use Rattle.pb_findings.proofs.results.put_others.Goals as goal

others_of : (name : List ℕ) (spots : List Spot) → 1 ≤ length spots → others_sarif name spots ≡ some_related name spots
others_of name [] some = absurd (omega (arith, some))
others_of name (spot ∷ spots) some = refl

pub returns-in-len1-up : goal.returns-in-len1-up
returns-in-len1-up c =
    on_ok c.put_some_related.result (λ last. rw (others_of c.args.name.now c.args.spots.now c.in-len1-up.len_at_least) last) c.put_some_related.ensures
