-- Sessions in two parts.
use Rattle.std.specs.Prelude.{◌≡◌, ℕ, List, ◌++◌}
use Rattle.pb_bank.specs.Desks.{DeskValue}
use Rattle.pb_bank.specs.Sayings.{Saying}
use Rattle.pb_bank_engine.specs.Sessions.{Session}

-- the first lines are answered by the first part of what is said, and lead to a desk from which the later ones are answered by
-- the rest of it
pub record InTwo (d : DeskValue) (lines later : List (List ℕ)) (said : List Saying) (next : DeskValue) : Type 0 where
  pub first : List Saying
  pub second : List Saying
  pub mid : DeskValue
  pub before : Session d lines first mid
  pub after : Session mid later second next
  pub whole : said ≡ first ++ second

-- ---- laws

-- a session that goes on from where another one ended is one session with it
abbrev pub SessionsGoOn : Type 0
SessionsGoOn =
    (d mid next : DeskValue) (lines later : List (List ℕ)) (said more : List Saying) → Session d lines said mid → Session mid later more next
    → Session d (lines ++ later) (said ++ more) next

-- a session can be cut before any of its lines
abbrev pub SessionsPart : Type 0
SessionsPart =
    (d next : DeskValue) (lines later : List (List ℕ)) (said : List Saying) → Session d (lines ++ later) said next → InTwo d lines later said next
