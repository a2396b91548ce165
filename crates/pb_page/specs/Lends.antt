-- Who lends, in a document.
use Rattle.std.specs.Prelude.{ℕ, List, ◌++◌, codes}
use Rattle.pb_base.specs.declared.lending.Lending.{Lending}
use Rattle.pb_base.specs.declared.lending.Lending.TheVariants.{ByBanker, ByCash}

-- the word for it
abbrev pub lend_text : Lending → List ℕ
lend_text ByBanker = codes "banker"
lend_text ByCash = codes "cash"

-- who lends, after a comma
abbrev pub lend_part : Lending → List ℕ
lend_part lending = codes ",\"lend\":\"" ++ (lend_text lending ++ codes "\"")
