-- Which notices come of a command.
use Rattle.std.specs.Prelude.{◌≡◌, ◌⊎◌, ℕ, ◌+◌, ◌==◌, Bool, cond, List, [], ◌∷◌, map, slice_index_or, Some}
use Rattle.pb_bank.specs.declared.request.Request.{Request}
use Rattle.pb_bank.specs.declared.said.Said.{Said}
use Rattle.pb_bank.specs.declared.said.Said.TheVariants as told
use Rattle.pb_desk.specs.Applies.{Applies, Command, Says, of_wishes}
use Rattle.pb_desk.specs.Services.{ServiceValue, granted_text}
use Rattle.pb_desk.specs.Sessions.{KeptValue, SessionValue, session_of}
use Rattle.pb_desk.specs.declared.told.Told.{Told}
use Rattle.pb_desk.specs.declared.told.Told.TheVariants.{Answer, Notice}

-- the notices of a session among what is told
abbrev pub notices_to : ℕ → List Told → List KeptValue
notices_to id [] = []
notices_to id (Answer m ∷ all) = notices_to id all
notices_to id (Notice m ∷ all) =
    cond (m.session == id) (record { number = m.number; text = m.text } ∷ notices_to id all) (notices_to id all)

-- the requests that are granted to jobs of a session
abbrev pub granted_to : (owners : List ℕ) → ℕ → List Said → List Request
granted_to owners id [] = []
granted_to owners id (told.Granted w ∷ said) =
    cond (slice_index_or owners w.job 0 == id) (w ∷ granted_to owners id said) (granted_to owners id said)
granted_to owners id (one ∷ said) = granted_to owners id said

-- texts with numbers that go up from one
abbrev pub numbered_from : ℕ → List (List ℕ) → List KeptValue
numbered_from from [] = []
numbered_from from (text ∷ texts) = record { number = from; text = text } ∷ numbered_from (from + 1) texts

-- each session that is there is told each wish of its jobs that the bank has granted, once, in the order in which it granted them,
-- and is told nothing else
abbrev pub TellsGrants : ServiceValue → (line : List ℕ) → List Told → ServiceValue → Type 0
TellsGrants v line all next =
    (said : List Said) × Says v.desk line said next.desk
    × ((id : ℕ) (s : SessionValue) → session_of v.sessions id ≡ Some s
    → notices_to id all ≡ numbered_from (s.noted + 1) (map (granted_text next.desk.names) (granted_to next.owners id (of_wishes line said))))

-- the bank is not asked, and nobody is sent a notice
abbrev pub TellsNobody : ServiceValue → List Told → ServiceValue → Type 0
TellsNobody v all next = (next.desk ≡ v.desk) × ((id : ℕ) → notices_to id all ≡ [])

-- ---- law

-- after a command each session is told of each of its wishes that was granted, once
abbrev pub GrantsAreToldOnce : Type 0
GrantsAreToldOnce =
    (v next : ServiceValue) (id number : ℕ) (by : Bool) (line : List ℕ) (all : List Told)
    → Applies v (Command id number by line) all next → TellsNobody v all next ⊎ TellsGrants v line all next
