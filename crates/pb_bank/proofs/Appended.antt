-- Texts that are appended one after another.
use Rattle.std.proofs.Common.{◌≡◌, ◌++◌, ℕ, List, ap, ◌∙◌, append_assoc}

two_more : (old mid new a b : List ℕ) → mid ≡ old ++ a → new ≡ mid ++ b → new ≡ old ++ (a ++ b)
two_more old mid new a b first second = second ∙ (ap (λ (t : List ℕ). t ++ b) first ∙ append_assoc old a b)

pub three_more : (old one two new a b c : List ℕ) → one ≡ old ++ a → two ≡ one ++ b → new ≡ two ++ c → new ≡ old ++ (a ++ (b ++ c))
three_more old one two new a b c first second third =
    two_more old one new a (b ++ c) first (two_more one two new b c second third)

pub four_more : (old one two three new a b c d : List ℕ) → one ≡ old ++ a → two ≡ one ++ b → three ≡ two ++ c → new ≡ three ++ d
    → new ≡ old ++ (a ++ (b ++ (c ++ d)))
four_more old one two three new a b c d first second third fourth =
    two_more old one new a (b ++ (c ++ d)) first (three_more one two three new b c d second third fourth)
