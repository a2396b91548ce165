-- The place of a session among the others.
use Rattle.std.proofs.Common.{◌≡◌, ℕ, suc, ◌+◌, ◌<◌, eqb, Bool, true, false, cond, List, [], ◌∷◌, length, drop, get_or, Option, Some, None}
use Rattle.std.proofs.Common.{refl, sym, ap, ◌∙◌, arith}
use Rattle.std.proofs.Math.ListN.{set}
use Rattle.std.proofs.Math.Seq.{drop-cons}
use Rattle.std.proofs.lemmas.Bool.{eqb-true}
use Rattle.pb_base.specs.Lines.{NameTable}
use Rattle.pb_bank.specs.declared.request.Request.{Request}
use Rattle.pb_bank.specs.declared.said.Said.{Said}
use Rattle.pb_bank.specs.declared.said.Said.TheVariants as told
use Rattle.pb_desk.specs.Services.{after_one, notice_to, notices_of}
use Rattle.pb_desk.specs.Sessions.{SessionValue, changed, session_place, session_of}
use Rattle.pb_desk.specs.declared.told.Told.TheVariants.{Notice}

-- the next session has the number, or one of those after it
pub place_next : (sessions : List SessionValue) (id i : ℕ) (s : SessionValue) (b : Bool) → i < length sessions → s ≡ get_or sessions i s
    → eqb s.id id ≡ b → session_place i (drop i sessions) id ≡ cond b (Some i) (session_place (i + 1) (drop (i + 1) sessions) id)
place_next sessions id i s b lt is same =
    let n : suc i ≡ i + 1 = omega arith in
    let later : ℕ → Option ℕ = λ k. session_place k (drop k sessions) id in
    ap (λ (ss : List SessionValue). session_place i ss id) (drop-cons sessions i s lt)
    ∙ (ap (λ (m : SessionValue). cond (eqb m.id id) (Some i) (later (suc i))) (sym is)
    ∙ (ap (λ (t : Bool). cond t (Some i) (later (suc i))) same ∙ ap (λ k. cond b (Some i) (later k)) n))

-- what is at the place of a session
pub record FoundAt (sessions : List SessionValue) (id i p : ℕ) : Type 0 where
  pub place : ℕ
  pub number : p ≡ i + place
  pub here : (d : SessionValue) → session_of sessions id ≡ Some (get_or sessions place d)
  pub then' : (to : SessionValue → SessionValue) (d : SessionValue)
      → changed to sessions id ≡ set sessions place (to (get_or sessions place d))
  pub is : (d : SessionValue) → (get_or sessions place d).id ≡ id

found_by : (s : SessionValue) (sessions : List SessionValue) (id i p : ℕ)
    → (session_place (suc i) sessions id ≡ Some p → FoundAt sessions id (suc i) p) → (b : Bool) → eqb s.id id ≡ b
    → cond b (Some i) (session_place (suc i) sessions id) ≡ Some p → FoundAt (s ∷ sessions) id i p
found_by s sessions id i p further true same at =
    let n : i ≡ p = cc in
    record {
      place = 0;
      number = omega arith;
      here = λ d. ap (λ (t : Bool). cond t (Some s) (session_of sessions id)) same;
      then' = λ to d. ap (λ (t : Bool). cond t (to s ∷ sessions) (s ∷ changed to sessions id)) same;
      is = λ d. eqb-true s.id id same;
    }
found_by s sessions id i p further false same at =
    let later = further at in
    let n : p ≡ suc i + later.place = later.number in
    record {
      place = suc later.place;
      number = omega arith;
      here = λ d. ap (λ (t : Bool). cond t (Some s) (session_of sessions id)) same ∙ later.here d;
      then' = λ to d.
          ap (λ (t : Bool). cond t (to s ∷ sessions) (s ∷ changed to sessions id)) same
          ∙ ap (λ (ss : List SessionValue). s ∷ ss) (later.then' to d);
      is = λ d. later.is d;
    }

pub found : (sessions : List SessionValue) (id i p : ℕ) → session_place i sessions id ≡ Some p → FoundAt sessions id i p
found [] id i p at = absurd (cc)
found (s ∷ sessions) id i p at = found_by s sessions id i p (found sessions id (suc i) p) (eqb s.id id) refl at

-- a session that has no place is not there
pub record Missing (sessions : List SessionValue) (id : ℕ) : Type 0 where
  pub none : session_of sessions id ≡ None
  pub same : (to : SessionValue → SessionValue) → changed to sessions id ≡ sessions

missing_by : (s : SessionValue) (sessions : List SessionValue) (id i : ℕ)
    → (session_place (suc i) sessions id ≡ None → Missing sessions id) → (b : Bool) → eqb s.id id ≡ b
    → cond b (Some i) (session_place (suc i) sessions id) ≡ None → Missing (s ∷ sessions) id
missing_by s sessions id i further true same at = absurd (cc)
missing_by s sessions id i further false same at =
    let later = further at in
    record {
      none = ap (λ (t : Bool). cond t (Some s) (session_of sessions id)) same ∙ later.none;
      same = λ to.
          ap (λ (t : Bool). cond t (to s ∷ sessions) (s ∷ changed to sessions id)) same
          ∙ ap (λ (ss : List SessionValue). s ∷ ss) (later.same to);
    }

pub missing : (sessions : List SessionValue) (id i : ℕ) → session_place i sessions id ≡ None → Missing sessions id
missing [] id i at = record { none = refl; same = λ to. refl }
missing (s ∷ sessions) id i at = missing_by s sessions id i (missing sessions id (suc i)) (eqb s.id id) refl at

-- ---- one that is at its place

-- the session at the place of one has changed
pub changed_at : (to : SessionValue → SessionValue) (sessions : List SessionValue) (id p : ℕ) (d new : SessionValue)
    → session_place 0 sessions id ≡ Some p → d ≡ get_or sessions p d → new ≡ to d → set sessions p new ≡ changed to sessions id
changed_at to sessions id p d new at here is =
    let f = found sessions id 0 p at in
    let n : p ≡ 0 + f.place = f.number in
    let e : f.place ≡ p = omega arith in
    ap (λ (x : SessionValue). set sessions p x) (is ∙ ap to here)
    ∙ sym (f.then' to d ∙ ap (λ k. set sessions k (to (get_or sessions k d))) e)

-- and a notice to it has its number
pub told_at : (sessions : List SessionValue) (id p : ℕ) (d : SessionValue) (number : ℕ) (text : List ℕ)
    → session_place 0 sessions id ≡ Some p → d ≡ get_or sessions p d → number ≡ d.noted + 1
    → notice_to (session_of sessions id) text ≡ Notice (record { session = id; number = number; text = text }) ∷ []
told_at sessions id p d number text at here is =
    let f = found sessions id 0 p at in
    let n : p ≡ 0 + f.place = f.number in
    let e : f.place ≡ p = omega arith in
    let same : get_or sessions f.place d ≡ d = ap (λ k. get_or sessions k d) e ∙ sym here in
    let who : d.id ≡ id = ap (λ (s : SessionValue). s.id) (sym same) ∙ f.is d in
    ap (λ (o : Option SessionValue). notice_to o text) (f.here d ∙ ap (λ (s : SessionValue). Some s) same)
    ∙ (ap (λ k. Notice (record { session = k; number = d.noted + 1; text = text }) ∷ []) who
    ∙ ap (λ k. Notice (record { session = id; number = k; text = text }) ∷ []) (sym is))

pub here_at : (sessions : List SessionValue) (id p : ℕ) (d : SessionValue) → session_place 0 sessions id ≡ Some p → d ≡ get_or sessions p d
    → session_of sessions id ≡ Some d
here_at sessions id p d at here =
    let f = found sessions id 0 p at in
    let n : p ≡ 0 + f.place = f.number in
    let e : f.place ≡ p = omega arith in
    f.here d ∙ ap (λ (s : SessionValue). Some s) (ap (λ k. get_or sessions k d) e ∙ sym here)

-- ---- what is said of no wish

pub no_grant : (owners : List ℕ) (names : NameTable) (sessions : List SessionValue) (one : Said)
    → ((w : Request) → one ≡ told.Granted w → ⊥)
    → (after_one owners names sessions one ≡ sessions) × (notices_of owners names sessions one ≡ [])
no_grant owners names sessions (told.Granted w) none = absurd (none w refl)
no_grant owners names sessions one none = (refl, refl)
