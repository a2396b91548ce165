-- Which options of `outcomes` mean something together.
use Rattle.std.specs.Prelude.{◌≡◌, Bool, true, false, List, [], ◌∷◌, All, Option, Some, None, ⊤}
use Rattle.pb_options.specs.declared.options.OutcomesOptions.{OutcomesOptions}

-- the option has a value
abbrev pub has_value : {A : Type 0} → Option A → Bool
has_value None = false
has_value (Some value) = true

-- none of these is given
abbrev pub NoneGiven : List Bool → Type 0
NoneGiven given = All (λ one. one ≡ false) given

-- at most one of these is given
abbrev pub AtMostOne : List Bool → Type 0
AtMostOne [] = ⊤
AtMostOne (true ∷ others) = NoneGiven others
AtMostOne (false ∷ others) = AtMostOne others

-- what may be written in place of all outcomes: what `--expect`, `--endless`, `--graph`, `--run` and `--deadlock` ask for
abbrev pub in_place : OutcomesOptions → List Bool
in_place o = o.expect ∷ o.endless ∷ o.graph ∷ has_value o.run ∷ has_value o.deadlock ∷ []

-- the same without `--run` and `--deadlock`, which are of outcomes as they are listed
abbrev pub in_place_of_list : OutcomesOptions → List Bool
in_place_of_list o = o.expect ∷ o.endless ∷ o.graph ∷ []

-- what says nothing of whether runs end: `--graph`, `--run` and `--deadlock`
abbrev pub of_no_end : OutcomesOptions → List Bool
of_no_end o = o.graph ∷ has_value o.run ∷ has_value o.deadlock ∷ []

-- the options mean something together: one thing at most is asked for in place of all outcomes; `--any-order` is of
-- `--expect`, `--fair` of whether runs end, and `--first-deadlock` and `--prints` of outcomes as they are listed
pub record MeanSomething (o : OutcomesOptions) : Type 0 where
  pub one : AtMostOne (in_place o)
  pub order : o.any_order ≡ true → o.expect ≡ true
  pub fair : o.fair ≡ true → NoneGiven (of_no_end o)
  pub first : o.first_deadlock ≡ true → NoneGiven (in_place_of_list o)
  pub prints : o.prints ≡ true → NoneGiven (in_place_of_list o)
