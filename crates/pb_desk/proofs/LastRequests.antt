-- The last requests of the sessions.
use Rattle.std.proofs.Common.{◌≡◌, ℕ, eqb, not, Bool, true, false, cond, List, [], ◌∷◌, ◌++◌, Option, Some, None, refl, sym, ap, ◌∙◌}
use Rattle.std.proofs.lemmas.Bool.{eqb-true, eqb-false}
use Rattle.pb_desk.specs.Sessions.{SessionValue, changed, sessions_but, session_of}

-- the number of the last request
abbrev pub last_of : Option SessionValue → Option ℕ
last_of None = None
last_of (Some s) = Some s.last

abbrev pub mapped : (ℕ → ℕ) → Option ℕ → Option ℕ
mapped to None = None
mapped to (Some n) = Some (to n)

gone : (b : Bool) (o : Option ℕ) → o ≡ None → o ≡ cond b None o
gone true o e = e
gone false o e = refl

-- ---- a change

-- the session, changed
abbrev pub changed_one : (SessionValue → SessionValue) → Option SessionValue → Option SessionValue
changed_one to None = None
changed_one to (Some s) = Some (to s)

change_step : (to : SessionValue → SessionValue) (s : SessionValue) (ss cs : List SessionValue) (id0 id : ℕ) (a b c : Bool)
    → eqb s.id id0 ≡ a → eqb s.id id ≡ b → eqb id0 id ≡ c → (to s).id ≡ s.id
    → session_of cs id ≡ cond c (changed_one to (session_of ss id)) (session_of ss id)
    → session_of (cond a (to s ∷ ss) (s ∷ cs)) id
    ≡ cond c (changed_one to (cond b (Some s) (session_of ss id))) (cond b (Some s) (session_of ss id))
change_step to s ss cs id0 id true true true ea eb ec same ih =
    let e : eqb (to s).id id ≡ true = ap (λ k. eqb k id) same ∙ eb in
    ap (λ (x : Bool). cond x (Some (to s)) (session_of ss id)) e
change_step to s ss cs id0 id true true false ea eb ec same ih =
    absurd (eqb-false id0 id ec (sym (eqb-true s.id id0 ea) ∙ eqb-true s.id id eb))
change_step to s ss cs id0 id true false true ea eb ec same ih =
    absurd (eqb-false s.id id eb (eqb-true s.id id0 ea ∙ eqb-true id0 id ec))
change_step to s ss cs id0 id true false false ea eb ec same ih =
    let e : eqb (to s).id id ≡ false = ap (λ k. eqb k id) same ∙ eb in
    ap (λ (x : Bool). cond x (Some (to s)) (session_of ss id)) e
change_step to s ss cs id0 id false true true ea eb ec same ih =
    absurd (eqb-false s.id id0 ea (eqb-true s.id id eb ∙ sym (eqb-true id0 id ec)))
change_step to s ss cs id0 id false true false ea eb ec same ih =
    ap (λ (x : Bool). cond x (Some s) (session_of cs id)) eb
change_step to s ss cs id0 id false false true ea eb ec same ih =
    ap (λ (x : Bool). cond x (Some s) (session_of cs id)) eb ∙ ih
change_step to s ss cs id0 id false false false ea eb ec same ih =
    ap (λ (x : Bool). cond x (Some s) (session_of cs id)) eb ∙ ih

no_change : (to : SessionValue → SessionValue) (b : Bool) → None ≡ cond b (changed_one to None) None
no_change to true = refl
no_change to false = refl

-- a session that has changed, and the others
pub session_changed : (to : SessionValue → SessionValue) → ((s : SessionValue) → (to s).id ≡ s.id) → (sessions : List SessionValue) (id0 id : ℕ)
    → session_of (changed to sessions id0) id ≡ cond (eqb id0 id) (changed_one to (session_of sessions id)) (session_of sessions id)
session_changed to ids [] id0 id = no_change to (eqb id0 id)
session_changed to ids (s ∷ ss) id0 id =
    change_step to s ss (changed to ss id0) id0 id (eqb s.id id0) (eqb s.id id) (eqb id0 id) refl refl refl (ids s)
    (session_changed to ids ss id0 id)

last_step : (to : SessionValue → SessionValue) (last : ℕ → ℕ) → ((s : SessionValue) → (to s).last ≡ last s.last) → (b : Bool)
    (o : Option SessionValue) → last_of (cond b (changed_one to o) o) ≡ cond b (mapped last (last_of o)) (last_of o)
last_step to last lasts true None = refl
last_step to last lasts true (Some s) = ap (λ n. Some n) (lasts s)
last_step to last lasts false o = refl

-- its last request, and those of the others
pub last_changed : (to : SessionValue → SessionValue) (last : ℕ → ℕ) → ((s : SessionValue) → (to s).id ≡ s.id)
    → ((s : SessionValue) → (to s).last ≡ last s.last) → (sessions : List SessionValue) (id0 id : ℕ)
    → last_of (session_of (changed to sessions id0) id)
    ≡ cond (eqb id0 id) (mapped last (last_of (session_of sessions id))) (last_of (session_of sessions id))
last_changed to last ids lasts sessions id0 id =
    ap last_of (session_changed to ids sessions id0 id) ∙ last_step to last lasts (eqb id0 id) (session_of sessions id)

-- ---- the others

others_step : (s : SessionValue) (ss fs : List SessionValue) (id0 id : ℕ) (a b c : Bool)
    → eqb s.id id0 ≡ a → eqb s.id id ≡ b → eqb id0 id ≡ c
    → last_of (session_of fs id) ≡ cond c None (last_of (session_of ss id))
    → last_of (session_of (cond (not a) (s ∷ fs) fs) id) ≡ cond c None (last_of (cond b (Some s) (session_of ss id)))
others_step s ss fs id0 id true b true ea eb ec ih = ih
others_step s ss fs id0 id true true false ea eb ec ih =
    absurd (eqb-false id0 id ec (sym (eqb-true s.id id0 ea) ∙ eqb-true s.id id eb))
others_step s ss fs id0 id true false false ea eb ec ih = ih
others_step s ss fs id0 id false true true ea eb ec ih =
    absurd (eqb-false s.id id0 ea (eqb-true s.id id eb ∙ sym (eqb-true id0 id ec)))
others_step s ss fs id0 id false false true ea eb ec ih =
    ap (λ (x : Bool). last_of (cond x (Some s) (session_of fs id))) eb ∙ ih
others_step s ss fs id0 id false true false ea eb ec ih =
    ap (λ (x : Bool). last_of (cond x (Some s) (session_of fs id))) eb
others_step s ss fs id0 id false false false ea eb ec ih =
    ap (λ (x : Bool). last_of (cond x (Some s) (session_of fs id))) eb ∙ ih

-- a session that has gone has none, and the others keep theirs
pub last_others : (sessions : List SessionValue) (id0 id : ℕ)
    → last_of (session_of (sessions_but sessions id0) id) ≡ cond (eqb id0 id) None (last_of (session_of sessions id))
last_others [] id0 id = gone (eqb id0 id) None refl
last_others (s ∷ ss) id0 id =
    others_step s ss (sessions_but ss id0) id0 id (eqb s.id id0) (eqb s.id id) (eqb id0 id) refl refl refl (last_others ss id0 id)

-- ---- one more

-- what is there is found first
abbrev pub or_new : Option ℕ → Bool → ℕ → Option ℕ
or_new (Some n) b m = Some n
or_new None b m = cond b (Some m) None

more_step : (s f : SessionValue) (ss ms : List SessionValue) (id : ℕ) (b : Bool)
    → last_of (session_of ms id) ≡ or_new (last_of (session_of ss id)) (eqb f.id id) f.last
    → last_of (cond b (Some s) (session_of ms id)) ≡ or_new (last_of (cond b (Some s) (session_of ss id))) (eqb f.id id) f.last
more_step s f ss ms id true ih = refl
more_step s f ss ms id false ih = ih

one_last : (f : SessionValue) (b : Bool) → last_of (cond b (Some f) None) ≡ cond b (Some f.last) None
one_last f true = refl
one_last f false = refl

pub last_more : (sessions : List SessionValue) (f : SessionValue) (id : ℕ)
    → last_of (session_of (sessions ++ f ∷ []) id) ≡ or_new (last_of (session_of sessions id)) (eqb f.id id) f.last
last_more [] f id = one_last f (eqb f.id id)
last_more (s ∷ ss) f id = more_step s f ss (ss ++ f ∷ []) id (eqb s.id id) (last_more ss f id)
