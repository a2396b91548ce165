-- The words for who decides on a request.
use Rattle.std.specs.Prelude.{◌≡◌, ℕ, List, codes, Result, MatchResult}
use Rattle.pb_base.specs.declared.lending.Lending.{Lending}
use Rattle.pb_base.specs.declared.lending.Lending.TheVariants.{ByBanker, ByCash}
use Rattle.pb_options.specs.declared.options.Lend.{Lend}
use Rattle.pb_options.specs.declared.options.Lend.TheVariants.{Banker, Cash}

-- the word that names who decides
abbrev pub lend_word : Lend → List ℕ
lend_word Banker = codes "banker"
lend_word Cash = codes "cash"

-- how who is named by the word decides
abbrev pub lending_for : Lend → Lending
lending_for Banker = ByBanker
lending_for Cash = ByCash

-- what is read of a text: who is named by it, or an error if nobody is
abbrev pub IsLendOf : {E : Type 0} → List ℕ → Result Lend E → Type 0
IsLendOf text read =
    MatchResult read (λ lend. lend_word lend ≡ text) (λ _. (lend : Lend) → lend_word lend ≡ text → ⊥)
