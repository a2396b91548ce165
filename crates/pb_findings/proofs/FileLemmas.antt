-- Files of an input.
use Rattle.std.proofs.Common.{◌≡◌, ◌<◌, ℕ, List, [], ◌∷◌, ◌++◌, ◌∙◌, ap, sym, refl, length, length-append, arith, subst, suc, None}
use Rattle.pb_command_io.specs.Parts.{IsCutAt}
use Rattle.std.proofs.lemmas.Grind.{common_steps}
use Rattle.pb_findings.specs.Entries.{IsNextEntry}
use Rattle.pb_findings.specs.declared.entry.Entry.{Entry}
use Rattle.pb_findings.specs.declared.entry.Next.TheVariants as next
use Rattle.pb_frames.specs.Frames.{IsFrame}
use Rattle.pb_frames.specs.Heads.{Early, Says, head_of}
use Rattle.pb_frames.proofs.HeadLemmas.{head_front, scan_end}

-- nothing begins with no header
no_head : (n : ℕ) (rest : List ℕ) → head_of [] ≡ Says n rest → ⊥
no_head n rest is = let early : Early ≡ Says n rest = sym (scan_end 4096 4095 refl [] None) ∙ is in absurd (cc early)

pub none_in_nothing : (bytes content rest : List ℕ) → bytes ≡ [] → IsFrame bytes content rest → ⊥
none_in_nothing bytes content rest empty frame =
    no_head (length content) (content ++ rest) (subst (λ (l : List ℕ). head_of l ≡ Says (length content) (content ++ rest)) empty frame.head)

-- a message has bytes of its own, so that what comes after it is shorter
pub frame_shorter : (bytes content rest : List ℕ) → IsFrame bytes content rest → length rest < length bytes
frame_shorter bytes content rest frame =
    let (front, cut, says) = head_front bytes (length content) (content ++ rest) frame.head in go front cut (says [])
  where
    go : (front : List ℕ) → bytes ≡ front ++ (content ++ rest) → head_of (front ++ []) ≡ Says (length content) [] → length rest < length bytes
    go [] cut says = absurd (no_head (length content) [] says)
    go (b ∷ front) cut says =
        let whole : length bytes ≡ suc (length (front ++ (content ++ rest))) = ap length cut in
        let one = length-append front (content ++ rest) in
        let two = length-append content rest in
        omega (arith, whole, one, two)

-- what comes after a line `%%` is shorter
pub cut_shorter : (left part rest : List ℕ) → IsCutAt left part rest → length rest < length left
cut_shorter left part rest cut = grind (arith, common_steps) steps 400000

-- and so is what comes after the two messages of a file
pub two_shorter : (old : List ℕ) (one : Entry) (new : List ℕ) → IsNextEntry old (next.Entry one) new → length new < length old
two_shorter old one new (head, mid, content, first, second, says) =
    let outer = frame_shorter old head mid first in
    let inner = frame_shorter mid content new second in
    omega (arith, outer, inner)
