-- Texts that are kept, one after another.
use Rattle.std.proofs.Common.{◌≡◌, ℕ, suc, ◌+◌, ◌<◌, eqb, Bool, cond, List, length, drop, get_or, Option, Some, sym, ap, ◌∙◌, arith}
use Rattle.std.proofs.Math.Seq.{drop-cons}
use Rattle.pb_desk.specs.Sessions.{KeptValue, text_of}

-- the next text has the number, or one of those after it
pub text_next : (kept : List KeptValue) (number i : ℕ) (one : KeptValue) (b : Bool) → i < length kept → one ≡ get_or kept i one
    → eqb one.number number ≡ b → text_of (drop i kept) number ≡ cond b (Some one.text) (text_of (drop (i + 1) kept) number)
text_next kept number i one b lt is same =
    let n : suc i ≡ i + 1 = omega arith in
    let later : ℕ → Option (List ℕ) = λ k. text_of (drop k kept) number in
    ap (λ (ks : List KeptValue). text_of ks number) (drop-cons kept i one lt)
    ∙ (ap (λ (m : KeptValue). cond (eqb m.number number) (Some m.text) (later (suc i))) (sym is)
    ∙ (ap (λ (t : Bool). cond t (Some one.text) (later (suc i))) same ∙ ap (λ k. cond b (Some one.text) (later k)) n))
