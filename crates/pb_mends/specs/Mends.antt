-- Edits with which a refused text is accepted, or refused further on.
use Rattle.std.specs.Prelude.{◌≡◌, ◌⊎◌, ◌<◌, ◌≤◌, ℕ, suc, ◌+◌, ◌-◌, List, [], ◌∷◌, ◌++◌, Option, None, Some, drop, length, take, string_bytes}
use Rattle.std.specs.Prelude.{Bool, map, true, false, ◌&&◌, if◌then◌else◌, nat_eq, codes}
use Rattle.std.specs.List.{list_any}
use Rattle.std.specs.Str.{bytes_eq}
use Rattle.pb_accept.specs.Causes.{text_cause}
use Rattle.pb_accept.specs.declared.cause.Cause.{Cause}
use Rattle.pb_code.specs.Whole.{Code, ProcessLabels}
use Rattle.pb_codegen.specs.Compiled.{IsCompiled, IsRefused}
use Rattle.pb_codegen.specs.declared.fault.ClaimsFault.{ClaimsFault}
use Rattle.pb_codegen.specs.declared.fault.CompileFault.{CompileFault}
use Rattle.pb_codegen.specs.declared.fault.CompileFault.TheVariants.{Lex, Parse, Names, Claims, Memory}
use Rattle.pb_lexer.specs.Cutting.{AreTokensOf}
use Rattle.pb_lexer.specs.Tokens.{Token}
use Rattle.pb_mends.specs.declared.mend.Mend.{Mend}

-- the bytes of a text from one offset up to another are replaced by others
pub record Edit : Type 0 where
  pub start : ℕ
  pub end : ℕ
  pub bytes : List ℕ

-- what contracts see of an edit
abbrev pub edit_of : Mend → Edit
edit_of mend = record { start = mend.start; end = mend.end; bytes = string_bytes mend.bytes }

-- the text that an edit leaves
abbrev pub edited : List ℕ → Edit → List ℕ
edited text edit = take edit.start text ++ (edit.bytes ++ drop edit.end text)

-- whether a token is what an edit replaces
abbrev pub is_replaced : (start end : ℕ) → Token → Bool
is_replaced start end t = nat_eq t.start start && nat_eq t.end end

-- an edit puts bytes between two others, or replaces one token: all other bytes are as they were
abbrev pub IsOfOneToken : List Token → Edit → Type 0
IsOfOneToken ts edit =
    (edit.start ≡ edit.end) ⊎ (list_any (is_replaced edit.start edit.end) ts ≡ true)

-- the bytes of tokens
abbrev pub texts : List Token → List (List ℕ)
texts ts = map (λ t. t.text) ts

-- of two lists of tokens the second is the first, with others in the place of one token at most: those before it and
-- those after it are there, in their order
pub record KeepsTokens (ts after : List Token) : Type 0 where
  pub number : ℕ
  pub to : ℕ
  pub order : number ≤ to
  pub before : take number (texts ts) ≡ take number (texts after)
  pub behind : drop (number + 1) (texts ts) ≡ drop to (texts after)

-- an edit keeps all bytes of a text outside one token, and all tokens but one: no other becomes a part of a comment
pub record KeepsOthers (text : List ℕ) (edit : Edit) : Type 0 where
  pub ts : List Token
  pub after : List Token
  pub cut : AreTokensOf text ts
  pub cut_after : AreTokensOf (edited text edit) after
  pub one : IsOfOneToken ts edit
  pub tokens : KeepsTokens ts after

-- the fault is one of the text, and not that out of memory
abbrev pub HasCause : CompileFault → Type 0
HasCause fault = (cause : Cause) × (text_cause fault ≡ Some cause)

-- which part refuses a text: the later, the more of the text is right
abbrev pub part : CompileFault → ℕ
part (Lex fault) = 0
part (Parse fault) = 1
part (Names fault) = 2
part (Claims fault) = 3
part Memory = 4

-- the offset that a cause tells
abbrev pub cause_offset : Option Cause → Option ℕ
cause_offset None = None
cause_offset (Some cause) = cause.at

-- the offset of a fault, if it has one
abbrev pub offset : CompileFault → Option ℕ
offset fault = cause_offset (text_cause fault)

-- how many tokens are just after this word before one that has this name: the number of what the name declares, counted
-- from 0. The first token may be after such a word
unfoldable pub number_from : (word name : List ℕ) → (is_behind : Bool) → List Token → (number : ℕ) → ℕ
number_from word name is_behind [] number = number
number_from word name is_behind (t ∷ ts) number =
    if is_behind && bytes_eq t.text name then number
    else number_from word name (bytes_eq t.text word) ts (if is_behind then suc number else number)

-- the number of the process and of the resource of a claim over its capital
abbrev pub process_number : List Token → ClaimsFault → ℕ
process_number ts over = number_from (codes "process") over.process.items false ts 0

abbrev pub resource_number : List Token → ClaimsFault → ℕ
resource_number ts over = number_from (codes "resource") over.resource.items false ts 0

-- of two claims over their capitals the second comes later: of a later process, or of the same one on a later resource
abbrev pub IsLaterClaim : List Token → ClaimsFault → List Token → ClaimsFault → Type 0
IsLaterClaim ts over other_ts other =
    (process_number ts over < process_number other_ts other)
    ⊎ ((process_number ts over ≡ process_number other_ts other) × (resource_number ts over < resource_number other_ts other))

-- of two texts with their faults the second has the later one: both have an offset and less is after the second, or both
-- are claims over a capital and the second is a later claim. So no fault without an offset is later but a claim
pub data IsLater (text : List ℕ) (fault : CompileFault) (other_text : List ℕ) (other : CompileFault) : Type 0 where
  nearer : (at other_at : ℕ) → offset fault ≡ Some at → offset other ≡ Some other_at
      → length other_text - other_at < length text - at → IsLater text fault other_text other
  claim : (over other_over : ClaimsFault) → fault ≡ Claims over → other ≡ Claims other_over
      → (ts other_ts : List Token) → AreTokensOf text ts → AreTokensOf other_text other_ts
      → IsLaterClaim ts over other_ts other_over → IsLater text fault other_text other

-- of two texts with their faults the second is refused further on: by a later part, or by the same one with a later fault
abbrev pub IsFurther : List ℕ → CompileFault → List ℕ → CompileFault → Type 0
IsFurther text fault other_text other =
    (part fault < part other) ⊎ ((part fault ≡ part other) × IsLater text fault other_text other)

-- a text is accepted, or refused further on than this one with this fault
pub data GetsFurther (text : List ℕ) (fault : CompileFault) (after : List ℕ) : Type 0 where
  accepted : (code : Code) (labels : List ProcessLabels) → IsCompiled after code labels → GetsFurther text fault after
  later : (other : CompileFault) → IsRefused after other → HasCause other → IsFurther text fault after other
      → GetsFurther text fault after

-- the text is refused, and with the edit it gets further
pub record Mends (text : List ℕ) (edit : Edit) : Type 0 where
  pub fault : CompileFault
  pub refused : IsRefused text fault
  pub told : HasCause fault
  pub order : edit.start ≤ edit.end
  pub within : edit.end ≤ length text
  pub kept : KeepsOthers text edit
  pub further : GetsFurther text fault (edited text edit)
