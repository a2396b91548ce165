-- Sessions: who talks to a bank, and what each was told.
use Rattle.std.specs.Prelude.{ℕ, ◌+◌, ◌==◌, suc, cond, nat_lt, List, [], ◌∷◌, ◌++◌, length, remove, filter, not, Option, Some, None}

-- a text with its number
pub record KeptValue : Type 0 where
  pub number : ℕ
  pub text : List ℕ

-- a text with its number, to a session
pub record MessageValue : Type 0 where
  pub session : ℕ
  pub number : ℕ
  pub text : List ℕ

-- a session: its number, its key, and the seconds of its lease; the number of its last request, and the answers to the last
-- ones; how many notices it was sent, and the last ones
pub record SessionValue : Type 0 where
  pub id : ℕ
  pub key : List ℕ
  pub lease : ℕ
  pub last : ℕ
  pub answers : List KeptValue
  pub noted : ℕ
  pub notices : List KeptValue

-- a session that has just begun
abbrev pub just_begun : (id : ℕ) → (key : List ℕ) → (lease : ℕ) → SessionValue
just_begun id key lease = record { id = id; key = key; lease = lease; last = 0; answers = []; noted = 0; notices = [] }

-- ---- what is kept

-- texts with one more; of 64 the oldest goes
abbrev pub with_one : List KeptValue → KeptValue → List KeptValue
with_one kept one = cond (nat_lt (length kept) 64) (kept ++ one ∷ []) (remove kept 0 ++ one ∷ [])

-- the text with this number, if it is still kept
abbrev pub text_of : List KeptValue → ℕ → Option (List ℕ)
text_of [] number = None
text_of (one ∷ kept) number = cond (one.number == number) (Some one.text) (text_of kept number)

-- the session after an answer to a request, which is kept if the request has a number
abbrev pub answered : SessionValue → (number : ℕ) → (text : List ℕ) → SessionValue
answered s number text =
    cond (number == 0) s (record s { last = number; answers = with_one s.answers (record { number = number; text = text }) })

-- the session after a notice, which is kept
abbrev pub noted : SessionValue → (text : List ℕ) → SessionValue
noted s text =
    record s { noted = s.noted + 1; notices = with_one s.notices (record { number = s.noted + 1; text = text }) }

-- ---- several

-- the session with this number
abbrev pub session_of : List SessionValue → (id : ℕ) → Option SessionValue
session_of [] id = None
session_of (s ∷ sessions) id = cond (s.id == id) (Some s) (session_of sessions id)

-- its place, where the first of all has the place i
abbrev pub session_place : ℕ → List SessionValue → (id : ℕ) → Option ℕ
session_place i [] id = None
session_place i (s ∷ sessions) id = cond (s.id == id) (Some i) (session_place (suc i) sessions id)

-- the sessions of which this one has changed
abbrev pub changed : (SessionValue → SessionValue) → List SessionValue → (id : ℕ) → List SessionValue
changed to [] id = []
changed to (s ∷ sessions) id = cond (s.id == id) (to s ∷ sessions) (s ∷ changed to sessions id)

-- the others
abbrev pub sessions_but : List SessionValue → (id : ℕ) → List SessionValue
sessions_but sessions id = filter (λ s. not (s.id == id)) sessions
