use Rattle.std.proofs.Common.{◌≡◌, ◌∙◌, ℕ, List, ◌++◌, Result, Ok, Err, OnOk, ap, append_assoc}
use Rattle.std.specs.Prelude.{codes}
use Rattle.pb_server_claims.specs.Said.{declared_name, integer_range}
use Rattle.pb_tree.specs.View.{program_view}
use Rattle.pb_server_claims.proofs.named.put_integer.Goals as goal

three_parts : {T E : Type 0} (r : Result T E) (old one two three a b d : List ℕ) → one ≡ old ++ a → two ≡ one ++ b
    → OnOk r (three ≡ two ++ d) → OnOk r (three ≡ old ++ ((a ++ b) ++ d))
three_parts (Ok x) old one two three a b d first second third =
    third ∙ ap (λ (l : List ℕ). l ++ d) (second ∙ ap (λ (l : List ℕ). l ++ b) first ∙ append_assoc old a b)
    ∙ append_assoc old (a ++ b) d
three_parts (Err e) old one two three a b d first second third = tt

pub returns : goal.returns
returns c =
    let of_process = codes " of process " ++ declared_name (program_view c.args.tree.now) c.args.p in
    rw (← append_assoc c.args.name.now of_process integer_range)
    (three_parts c.put.result c.args.out.now.items c.put_name.new.out.items c.put_name-2.new.out.items c.put.new.out.items
    (codes "integer " ++ c.args.name.now) of_process integer_range c.in_ok-put_name.ensures
    (rw c.declared_name.ensures at c.in_ok-put_name-2.ensures) (rw c.integer_range.ensures at c.put.ensures))
