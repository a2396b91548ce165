-- What a method of the parser makes of the plain syntax that it reads: `is x y` says that `x` was made of the
-- syntax `y`. Of the public contracts only that of `read` cites this file.
use Rattle.std.specs.Prelude.{◌≡◌, List, Result, Ok, Err}
use Rattle.pb_lexer.specs.Tokens.{Token}
use Rattle.pb_grammar.specs.declared.fault.ParseFault.{ParseFault}
use Rattle.pb_grammar.specs.declared.fault.ParseFault.TheVariants as fault
use Rattle.pb_grammar.specs.Reader.{Answer, Refused, Found}

-- what a fault says of what was read: the grammar refuses it, or out of memory, if that may come
abbrev pub Fails : {Y : Type 0} → (wants : Type 0) → ParseFault → Answer Y → Type 0
Fails wants (fault.Syntax at) answer = answer ≡ Refused
Fails wants fault.TooDeep answer = ⊥
Fails wants fault.TooLarge answer = ⊥
Fails wants fault.NoMemory answer = wants

-- what was read is some syntax of which `x` was made
pub record Finds {X Y : Type 0} (is : X → Y → Type 0) (x : X) (answer : Answer Y) (rest : List Token)
    : Type 0 where
  pub syntax : Y
  pub found : answer ≡ Found syntax rest
  pub same : is x syntax

-- the result was made of what was read, unless out of memory
abbrev pub IsMadeOf : {X Y : Type 0} → (wants : Type 0) → (X → Y → Type 0) → Result X ParseFault → Answer Y
    → List Token → Type 0
IsMadeOf wants is (Ok x) answer rest = Finds is x answer rest
IsMadeOf wants is (Err e) answer rest = Fails wants e answer

-- `part` comes after whatever `old` was made of, and so `new` was made
abbrev pub Adds : {X Y : Type 0} → (X → Y → Type 0) → (Y → Y → Y) → X → X → Y → Type 0
Adds is join old new part = (before : _) → is old before → is new (join before part)
