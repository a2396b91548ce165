-- How picks are drawn.
use Rattle.std.specs.Prelude.{◌≡◌, ℕ, ◌%◌, List, [], ◌∷◌, ◌++◌, Option, Some, length, remove, slice_get, ⊤}
use Rattle.pb_base.specs.declared.event.Event.{Event}
use Rattle.pb_base.specs.declared.lending.Lending.{Lending}
use Rattle.pb_base.specs.declared.pick.Pick.{Pick}
use Rattle.pb_base.specs.Steppers.{State}
use Rattle.pb_code.specs.Code.{CodeProcess}
use Rattle.pb_code.specs.Reached.{CodeMovesBy, CodeStaysBy}
use Rattle.pb_code.specs.Whole.{Code, code_opening}
use Rattle.pb_record.specs.Choices.{AreCandidates}
use Rattle.pb_record.specs.declared.schedule.Next.{Next}
use Rattle.pb_record.specs.declared.schedule.Next.TheVariants.{Silent, Did, NotEnabled}
use Rattle.rand_pcg.specs.Lcg.{Lcg, increment_of, started}
use Rattle.rand_pcg.specs.Pcg.{multiplier_64, pcg32}

-- the number, in this list, of the pick that the next word of the generator falls on
abbrev pub drawn_number : Lcg → List Pick → ℕ
drawn_number generator picks = (pcg32 generator).0 % length picks

-- the generator draws this pick from the list: the next word falls on it; or on one that is not enabled under
-- this lending, which is struck out, and the pick is drawn from the rest
pub data Draws (lending : Lending) (code : Code) (s : State CodeProcess) : Lcg → List Pick → Pick → Lcg → Type 0 where
  hit : (generator : Lcg) (picks : List Pick) (pick : Pick) → slice_get picks (drawn_number generator picks) ≡ Some pick
      → Draws lending code s generator picks pick (pcg32 generator).1
  struck : (generator after : Lcg) (picks : List Pick) (pick refused : Pick)
      → slice_get picks (drawn_number generator picks) ≡ Some refused → CodeStaysBy lending code s refused
      → Draws lending code s (pcg32 generator).1 (remove picks (drawn_number generator picks)) pick after
      → Draws lending code s generator picks pick after

-- the generator draws this pick from all candidates
abbrev pub DrawsPick : Lending → Code → State CodeProcess → Lcg → Pick → Lcg → Type 0
DrawsPick lending code s generator pick after =
    (picks : List Pick) × AreCandidates code s picks × Draws lending code s generator picks pick after

-- the pick that was made, if there is one, is the one that is drawn
abbrev pub IsDrawn : Lending → Code → State CodeProcess → Lcg → Next → Lcg → Type 0
IsDrawn lending code s generator (Silent pick made) after = DrawsPick lending code s generator pick after
IsDrawn lending code s generator (Did pick event) after = DrawsPick lending code s generator pick after
IsDrawn lending code s generator NotEnabled after = ⊤

-- ---- drawn runs

-- the generator that a seed starts, on the stream 54
abbrev pub generator_of : ℕ → Lcg
generator_of seed = started 64 multiplier_64 seed (increment_of 64 54)

-- picks of the code under this lending, one after another from the start, each drawn from the candidates to
-- which those before it have led
pub data DrawsRun (lending : Lending) (code : Code) (first : Lcg) : List Pick → State CodeProcess → Lcg → Type 0 where
  opening : DrawsRun lending code first [] (code_opening code) first
  one_more : (picks : List Pick) (before after : State CodeProcess) (now next : Lcg) (pick : Pick) (event : Option Event)
      → DrawsRun lending code first picks before now → DrawsPick lending code before now pick next
      → CodeMovesBy lending code before pick event after → DrawsRun lending code first (picks ++ pick ∷ []) after next

-- the generator of this seed draws these picks
abbrev pub IsDrawnRun : Lending → Code → ℕ → List Pick → Type 0
IsDrawnRun lending code seed picks =
    (end : State CodeProcess) × (after : Lcg) × DrawsRun lending code (generator_of seed) picks end after
