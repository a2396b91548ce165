-- Verdicts that were read, part by part.
use Rattle.std.proofs.Common.{◌≡◌, Bool, true, false, cond, refl, ap}
use Rattle.std.specs.Str.{bytes_eq}
use Rattle.std.proofs.lemmas.Slice.Eq.{bytes_eq-Decides}
use Rattle.pb_object.specs.declared.words.Verdict.{Verdict}
use Rattle.pb_object.specs.declared.words.Verdict.TheVariants.{Malformed, Beyond, Read}
use Rattle.pb_code.specs.Names.{Word}
use Rattle.pb_object.specs.Words.{paired, mapped}
use Rattle.pb_object.specs.Instructions.{select}

pub mapped_read : {A B : Type 0} (f : A → B) (v : Verdict A) (y : B) → mapped f v ≡ Read y → (x : A) × (v ≡ Read x) × (f x ≡ y)
mapped_read f Malformed y e = absurd cc
mapped_read f Beyond y e = absurd cc
mapped_read f (Read x) y e = (x, refl, cc)

abbrev pub reading : {T : Type 0} → T → Verdict T
reading x = Read x

pub read_is : {T : Type 0} (x y : T) → reading x ≡ reading y → x ≡ y
read_is x y e = cc

pub paired_read : {A B : Type 0} (v : Verdict A) (w : Verdict B) (y : A × B) → paired v w ≡ Read y → (v ≡ Read y.0) × (w ≡ Read y.1)
paired_read Malformed w y e = absurd cc
paired_read Beyond Malformed y e = absurd cc
paired_read Beyond Beyond y e = absurd cc
paired_read Beyond (Read b) y e = absurd cc
paired_read (Read a) Malformed y e = absurd cc
paired_read (Read a) Beyond y e = absurd cc
paired_read {A} {B} (Read a) (Read b) y e =
    let same : (a, b) ≡ y = read_is (a, b) y e in
    (ap (λ (p : A × B). reading p.0) same, ap (λ (p : A × B). reading p.1) same)

select_by : {A P : Type 0} (b : Bool) (it others : Verdict A) (x : A) → cond b it others ≡ Read x → (b ≡ true → it ≡ Read x → P) → (others ≡ Read x → P) → P
select_by true it others x e yes' no' = yes' refl e
select_by false it others x e yes' no' = no' e

pub select_or : {A P : Type 0} (k key : Word) (it others : Verdict A) (x : A) → select k key it others ≡ Read x → (k ≡
    key → it ≡ Read x → P) → (others ≡ Read x → P) → P
select_or k key it others x e found other = select_by (bytes_eq k key) it others x e (λ h. found ((bytes_eq-Decides k key).0 h)) other

pub only_read : {A : Type 0} (k key : Word) (it : Verdict A) (x : A) → select k key it Malformed ≡ Read x → (k ≡ key) × (it ≡ Read x)
only_read k key it x e = select_or k key it Malformed x e (λ h f. (h, f)) (λ f. absurd cc)

pub select_same : {A : Type 0} (key : Word) (it others : Verdict A) → select key key it others ≡ it
select_same key it others = rw ((bytes_eq-Decides key key).1 refl) refl

pub guard_read : {A : Type 0} (b : Bool) (v : Verdict A) (x : A) → cond b v Malformed ≡ Read x → (b ≡ true) × (v ≡ Read x)
guard_read true v x e = (refl, e)
guard_read false v x e = absurd cc
