use Rattle.std.proofs.Common.{rules, tests, List, ℕ, Bor, ◌∙◌}
use Rattle.std.proofs.lemmas.Iterator.{YieldsList-from_slice}
use Rattle.std.proofs.lemmas.Iterator.Search.{any_from_yields_List}
use Rattle.pb_search_tool.specs.Search.{asks_else}
use Rattle.pb_search_tool.proofs.WordLemmas.{any_mapped}
use Rattle.pb_search_tool.proofs.search_tool.some_asks_else.Goals as goal

pub returns : goal.returns
returns c =
    any_from_yields_List (λ w. asks_else w.now) _ _ _ c.any.ensures.ran
    (YieldsList-from_slice c.args.words.now cc) (λ x b q k. search (rules, tests))
    ∙ any_mapped asks_else (λ (w : Bor (List ℕ)). w.now) c.args.words.now
