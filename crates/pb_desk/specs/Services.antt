-- A served bank: the desk of a bank, the sessions over it, and whose job each is.
use Rattle.std.specs.Prelude.{◌≡◌, ℕ, zero, suc, ◌+◌, ◌==◌, cond, List, [], ◌∷◌, ◌++◌, length, slice_index_or, Option, Some, None}
use Rattle.std.specs.List.{flat_map}
use Rattle.pb_base.specs.Lines.{NameTable, name_of}
use Rattle.pb_bank.specs.Answers.{line_words}
use Rattle.pb_bank.specs.Desks.{DeskValue, IsFirstDesk}
use Rattle.pb_bank.specs.Sayings.{saying_of, sayings_of}
use Rattle.pb_bank.specs.Tables.{line_of}
use Rattle.pb_bank.specs.declared.request.Request.{Request}
use Rattle.pb_bank.specs.declared.said.Said.{Said}
use Rattle.pb_bank.specs.declared.said.Said.TheVariants as told
use Rattle.pb_desk.specs.Sessions.{SessionValue, session_of, changed, answered, noted}
use Rattle.pb_desk.specs.declared.told.Told.{Told}
use Rattle.pb_desk.specs.declared.told.Told.TheVariants.{Answer, Notice}

-- the desk of the bank; by slot the session whose job it is, 0 if no job has it; the sessions; and the highest number that one had
pub record ServiceValue : Type 0 where
  pub desk : DeskValue
  pub owners : List ℕ
  pub sessions : List SessionValue
  pub newest : ℕ

-- at the start: no resources, no jobs and no sessions
pub record IsFirst (v : ServiceValue) : Type 0 where
  pub desk : IsFirstDesk v.desk
  pub owners : v.owners ≡ []
  pub sessions : v.sessions ≡ []
  pub newest : v.newest ≡ 0

-- the session whose job has this slot
abbrev pub owner_at : ServiceValue → ℕ → ℕ
owner_at v p = slice_index_or v.owners p 0

-- ---- whose job each is

-- whose job a slot is after a command of a session: nobody's if no job has it; else the same one's as before, or this one's if
-- it was nobody's
abbrev pub owner_after : (name : List ℕ) → (owner id : ℕ) → ℕ
owner_after [] owner id = 0
owner_after (b ∷ name) owner id = cond (owner == 0) id owner

-- so it is of the first n slots
abbrev pub owners_below : (names : List (List ℕ)) → (owners : List ℕ) → (id : ℕ) → ℕ → List ℕ
owners_below names owners id zero = []
owners_below names owners id (suc n) =
    owners_below names owners id n ++ owner_after (name_of names n) (slice_index_or owners n 0) id ∷ []

-- what is served after the desk answered a command of a session
abbrev pub with_desk : ServiceValue → (id : ℕ) → DeskValue → ServiceValue
with_desk v id d = record v {
  desk = d;
  owners = owners_below d.names.processes v.owners id (length d.names.processes);
}

-- ---- answers and notices

-- the text of what the desk said of a line
abbrev pub answer_text : DeskValue → (line : List ℕ) → List Said → List ℕ
answer_text d line said = flat_map line_of (sayings_of d.names (line_words line) said)

-- the answer to a request of a session, and what is served after it
abbrev pub answer_to : (id number : ℕ) → (text : List ℕ) → Told
answer_to id number text = Answer (record { session = id; number = number; text = text })

abbrev pub with_answer : ServiceValue → (id number : ℕ) → (text : List ℕ) → ServiceValue
with_answer v id number text = record v { sessions = changed (λ s. answered s number text) v.sessions id }

-- a notice to a session, if it is there
abbrev pub notice_to : Option SessionValue → (text : List ℕ) → List Told
notice_to None text = []
notice_to (Some s) text = Notice (record { session = s.id; number = s.noted + 1; text = text }) ∷ []

-- ---- wishes that are granted

-- the text of a notice: the request that is granted
abbrev pub granted_text : NameTable → Request → List ℕ
granted_text names w = line_of (saying_of names [] (told.Granted w))

-- the session whose job has a wish granted is told so; of anything else nobody is
abbrev pub notices_of : (owners : List ℕ) → NameTable → List SessionValue → Said → List Told
notices_of owners names sessions (told.Granted w) =
    notice_to (session_of sessions (slice_index_or owners w.job 0)) (granted_text names w)
notices_of owners names sessions said = []

-- the sessions after it
abbrev pub after_one : (owners : List ℕ) → NameTable → List SessionValue → Said → List SessionValue
after_one owners names sessions (told.Granted w) =
    changed (λ s. noted s (granted_text names w)) sessions (slice_index_or owners w.job 0)
after_one owners names sessions said = sessions

-- so it is of all that the desk said, one thing after another
abbrev pub notices_of_all : (owners : List ℕ) → NameTable → List SessionValue → List Said → List Told
notices_of_all owners names sessions [] = []
notices_of_all owners names sessions (one ∷ said) =
    notices_of owners names sessions one ++ notices_of_all owners names (after_one owners names sessions one) said

abbrev pub after_each : (owners : List ℕ) → NameTable → List SessionValue → List Said → List SessionValue
after_each owners names sessions [] = sessions
after_each owners names sessions (one ∷ said) = after_each owners names (after_one owners names sessions one) said

-- the notices of what the desk said, and what is served after them
abbrev pub all_notices : ServiceValue → List Said → List Told
all_notices v said = notices_of_all v.owners v.desk.names v.sessions said

abbrev pub after_all : ServiceValue → List Said → ServiceValue
after_all v said = record v { sessions = after_each v.owners v.desk.names v.sessions said }
