-- Journals: entries that are applied one after another.
use Rattle.std.specs.Prelude.{◌≡◌, ◌<◌, ℕ, Bool, true, false, List, [], ◌∷◌, ◌++◌, codes, Some}
use Rattle.std.specs.Str.{bytes_eq}
use Rattle.pb_desk.specs.Applies.{EntryValue, Command, Applies}
use Rattle.pb_desk.specs.Refusals.{is_another, owner_of, subject_of, verb_of}
use Rattle.pb_desk.specs.Services.{ServiceValue, IsFirst}
use Rattle.pb_desk.specs.Sessions.{SessionValue, session_of}
use Rattle.pb_desk.specs.declared.told.Told.{Told}

-- the entries are applied in turn, and so much is told of them
abbrev pub Runs : ServiceValue → List EntryValue → List Told → ServiceValue → Type 0
Runs v [] all next = (all ≡ []) × (next ≡ v)
Runs v (entry ∷ entries) all next =
    (first : List Told) × (rest : List Told) × (mid : ServiceValue)
    × Applies v entry first mid × Runs mid entries rest next × (all ≡ first ++ rest)

-- ---- laws

-- what a journal leads to, and then the entries after it, is what they all lead to: a start goes on where the last one ended
abbrev pub JournalsGoOn : Type 0
JournalsGoOn =
    (v mid next : ServiceValue) (entries later : List EntryValue) (all more : List Told)
    → Runs v entries all mid → Runs mid later more next → Runs v (entries ++ later) (all ++ more) next

-- the entries before one and those after it
abbrev pub JournalInTwo : ServiceValue → List EntryValue → List EntryValue → List Told → ServiceValue → Type 0
JournalInTwo v entries later all next =
    (first : List Told) × (second : List Told) × (mid : ServiceValue)
    × Runs v entries first mid × Runs mid later second next × (all ≡ first ++ second)

-- a journal can be cut before any of its entries
abbrev pub JournalsPart : Type 0
JournalsPart =
    (v next : ServiceValue) (entries later : List EntryValue) (all : List Told)
    → Runs v (entries ++ later) all next → JournalInTwo v entries later all next

-- a request with a number is carried out once: once it was answered, to a session that is there, then whatever else happens, it
-- changes nothing when it comes again
abbrev pub RequestsAreCarriedOutOnce : Type 0
RequestsAreCarriedOutOnce =
    (start v next later after : ServiceValue) (before entries : List EntryValue) (told first more again : List Told)
    (s : SessionValue) (id number : ℕ) (by by' : Bool) (line line' : List ℕ)
    → IsFirst start → Runs start before told v → session_of v.sessions id ≡ Some s
    → 0 < number → Applies v (Command id number by line) first next
    → Runs next entries more later → Applies later (Command id number by' line') again after
    → after ≡ later

-- a command that is of a job of another session leaves the bank, its jobs and its queue as they are
abbrev pub JobsOfOthersStay : Type 0
JobsOfOthersStay =
    (v next : ServiceValue) (id number : ℕ) (by : Bool) (line : List ℕ) (all : List Told)
    → bytes_eq (verb_of line) (codes "job") ≡ false → bytes_eq (verb_of line) (codes "capital") ≡ false
    → is_another (owner_of v (subject_of line)) id ≡ true
    → Applies v (Command id number by line) all next
    → (next.desk ≡ v.desk) × (next.owners ≡ v.owners)
