use Rattle.std.proofs.Common.{rules, tests, ◌||◌, List, ℕ, nat_eq, Bor, ◌∙◌}
use Rattle.std.specs.List.{starts_with}
use Rattle.std.specs.Str.{bytes_eq}
use Rattle.std.proofs.lemmas.Iterator.{YieldsList-from_slice}
use Rattle.std.proofs.lemmas.Iterator.Search.{any_from_yields_List}
use Rattle.pb_json_lines.proofs.DialectLemmas.{any_mapped}
use Rattle.pb_json_lines.proofs.dialect.is_given.Goals as goal

pub returns : goal.returns
returns c =
    any_from_yields_List (λ w. bytes_eq w.now c.args.option.now || starts_with nat_eq w.now c.args.begun.now) _ _ _ c.any.ensures.ran
    (YieldsList-from_slice c.args.words.now cc) (λ x b q k. search (rules, tests))
    ∙ any_mapped (λ w. bytes_eq w c.args.option.now || starts_with nat_eq w c.args.begun.now) (λ (w : Bor (List ℕ)). w.now) c.args.words.now
