-- What an entry of the journal does, and what is told of it.
use Rattle.std.specs.Prelude.{◌≡◌, ℕ, suc, ◌||◌, ◌&&◌, ◌==◌, not, Bool, true, false, cond, nat_lt, List, [], ◌∷◌, ◌++◌, codes}
use Rattle.std.specs.Prelude.{length, Option, Some, None}
use Rattle.std.specs.Str.{bytes_eq}
use Rattle.std.specs.Fmt.{decimal}
use Rattle.pb_base.specs.Lines.{line, name_of}
use Rattle.pb_bank.specs.Answers.{AnswersLine, line_words}
use Rattle.pb_bank.specs.Desks.{DeskValue}
use Rattle.pb_bank.specs.Sayings.{sayings_of}
use Rattle.pb_bank.specs.declared.said.Said.{Said}
pub use Rattle.pb_desk.specs.Entries.{EntryValue, Begin, End, Command, Declare}
use Rattle.pb_desk.specs.Entries.{entry_in}
use Rattle.pb_desk.specs.Refusals.{refusal_of, refusal_text, verb_of}
use Rattle.pb_desk.specs.Services.{ServiceValue, owner_at, with_desk, answer_text, answer_to, with_answer, all_notices, after_all}
use Rattle.pb_desk.specs.Sessions.{SessionValue, session_of, text_of, sessions_but, just_begun}
use Rattle.pb_desk.specs.declared.refusal.Refusal.{Refusal}
use Rattle.pb_desk.specs.declared.refusal.Refusal.TheVariants.{OfOperators, NoSession, NotKept}
use Rattle.pb_desk.specs.declared.told.Told.{Told}

-- the desk answers a line, and says so much
abbrev pub Says : DeskValue → (line : List ℕ) → List Said → DeskValue → Type 0
Says d line said next = AnswersLine d line (sayings_of next.names (line_words line) said) next

-- ---- commands

-- of these commands a grant is of the request itself; of any other it is of a wish that waited
abbrev pub is_asking : (line : List ℕ) → Bool
is_asking line = bytes_eq (verb_of line) (codes "ask") || bytes_eq (verb_of line) (codes "want")

-- what is said of wishes that waited
abbrev pub of_wishes : (line : List ℕ) → List Said → List Said
of_wishes line said = cond (is_asking line) [] said

-- a command that is refused is answered so; any other goes to the desk, whose answer is the answer, and each session whose job has a
-- wish granted is told so
abbrev pub CarriesOut : Option Refusal → ServiceValue → (id number : ℕ) → (line : List ℕ) → List Told → ServiceValue → Type 0
CarriesOut (Some refusal) v id number line all next =
    (all ≡ answer_to id number (refusal_text refusal) ∷ []) × (next ≡ with_answer v id number (refusal_text refusal))
CarriesOut None v id number line all next =
    (said : List Said) × (d : DeskValue) × Says v.desk line said d
    × (all ≡ answer_to id number (answer_text d line said) ∷ all_notices (with_desk v id d) (of_wishes line said))
    × (next ≡ with_answer (after_all (with_desk v id d) (of_wishes line said)) id number (answer_text d line said))

-- the request was carried out already
abbrev pub is_done : SessionValue → (number : ℕ) → Bool
is_done s number = not (number == 0) && not (nat_lt s.last number)

-- whether it was, of a session that is there
abbrev pub done_of : Option SessionValue → (number : ℕ) → Option Bool
done_of None number = None
done_of (Some s) number = Some (is_done s number)

-- the answer that is kept
abbrev pub text_again : Option (List ℕ) → List ℕ
text_again None = refusal_text NotKept
text_again (Some text) = text

-- a request that was carried out is answered again, and changes nothing
abbrev pub AnswersOnce : Bool → SessionValue → ServiceValue → (id number : ℕ) → (by_operator : Bool) → (line : List ℕ) → List Told → ServiceValue → Type 0
AnswersOnce true s v id number by_operator line all next =
    (all ≡ answer_to id number (text_again (text_of s.answers number)) ∷ []) × (next ≡ v)
AnswersOnce false s v id number by_operator line all next =
    CarriesOut (refusal_of v id by_operator line) v id number line all next

-- a command of a session, if it is there
abbrev pub Commands : Option SessionValue → ServiceValue → (id number : ℕ) → (by_operator : Bool) → (line : List ℕ) → List Told → ServiceValue → Type 0
Commands None v id number by_operator line all next =
    (all ≡ answer_to id number (refusal_text NoSession) ∷ []) × (next ≡ v)
Commands (Some s) v id number by_operator line all next = AnswersOnce (is_done s number) s v id number by_operator line all next

-- ---- begin and end

-- `session S KEY T`, as the answer to who begins a session
abbrev pub session_text : (id : ℕ) → (key : List ℕ) → (lease : ℕ) → List ℕ
session_text id key lease =
    line (codes "session " ++ decimal id ++ codes " " ++ key ++ codes " " ++ decimal lease) ++ line (codes "ready")

-- a session begins whose number is higher than any before
abbrev pub BeginsSession : Bool → ServiceValue → (id : ℕ) → (key : List ℕ) → (lease : ℕ) → List Told → ServiceValue → Type 0
BeginsSession false v id key lease all next = (all ≡ answer_to id 0 (refusal_text NoSession) ∷ []) × (next ≡ v)
BeginsSession true v id key lease all next =
    (all ≡ answer_to id 0 (session_text id key lease) ∷ [])
    × (next ≡ record v { sessions = v.sessions ++ just_begun id key lease ∷ []; newest = id })

-- the job of a slot leaves, and each session whose job has a wish granted is told so
abbrev pub LeavesSlot : ServiceValue → ℕ → List Told → ServiceValue → Type 0
LeavesSlot v p all next =
    (said : List Said) × (d : DeskValue) × Says v.desk (codes "leave " ++ name_of v.desk.names.processes p) said d
    × (all ≡ all_notices (with_desk v 0 d) said) × (next ≡ after_all (with_desk v 0 d) said)

-- so it does, if it is one of the session's
abbrev pub LeavesIf : Bool → ServiceValue → ℕ → List Told → ServiceValue → Type 0
LeavesIf true v p all next = LeavesSlot v p all next
LeavesIf false v p all next = (all ≡ []) × (next ≡ v)

-- of the first n slots the jobs of a session leave
pub data Leaves (id : ℕ) (v : ServiceValue) : ℕ → List Told → ServiceValue → Type 0 where
  nothing : Leaves id v 0 [] v
  one_more : (n : ℕ) (all more : List Told) (mid next : ServiceValue)
      → Leaves id v n all mid → LeavesIf (owner_at mid n == id) mid n more next → Leaves id v (suc n) (all ++ more) next

-- a session ends, if it is there: it is gone, and then its jobs leave, in the order of their slots
abbrev pub Ends : Option SessionValue → ServiceValue → (id : ℕ) → List Told → ServiceValue → Type 0
Ends None v id all next = (all ≡ answer_to id 0 (refusal_text NoSession) ∷ []) × (next ≡ v)
Ends (Some s) v id all next =
    (notices : List Told) × Leaves id (record v { sessions = sessions_but v.sessions id }) (length v.owners) notices next
    × (all ≡ answer_to id 0 (line (codes "ready")) ∷ notices)

-- ---- resources

-- a resource of the first start; no other command stands there
abbrev pub Declares : Bool → ServiceValue → (line : List ℕ) → List Told → ServiceValue → Type 0
Declares false v line all next = (all ≡ answer_to 0 0 (refusal_text OfOperators) ∷ []) × (next ≡ v)
Declares true v line all next =
    (said : List Said) × (d : DeskValue) × Says v.desk line said d
    × (all ≡ answer_to 0 0 (answer_text d line said) ∷ []) × (next ≡ record v { desk = d })

-- ---- all

-- what an entry does
abbrev pub Applies : ServiceValue → EntryValue → List Told → ServiceValue → Type 0
Applies v (Begin id key lease) all next = BeginsSession (nat_lt v.newest id) v id key lease all next
Applies v (End id) all next = Ends (session_of v.sessions id) v id all next
Applies v (Command id number by_operator line) all next =
    Commands (session_of v.sessions id) v id number by_operator line all next
Applies v (Declare line) all next = Declares (bytes_eq (verb_of line) (codes "resource")) v line all next

-- so does a line that spells one; any other line does nothing
abbrev pub AppliesIf : Option EntryValue → ServiceValue → List Told → ServiceValue → Type 0
AppliesIf None v all next = (all ≡ []) × (next ≡ v)
AppliesIf (Some entry) v all next = Applies v entry all next

abbrev pub AppliesLine : ServiceValue → (line : List ℕ) → List Told → ServiceValue → Type 0
AppliesLine v line all next = AppliesIf (entry_in line) v all next
