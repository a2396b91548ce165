-- How a writer grows: one part of the code after another, and jumps that are patched.
use Rattle.std.proofs.Common.{◌≡◌, ℕ, suc, ◌+◌, ◌<◌, ◌≤◌, List, [], ◌∷◌, ◌++◌, length, map, Option, Some, arith}
use Rattle.std.proofs.Common.{ap, sym, subst, ◌∙◌, append_assoc, append-nil, length-append, All}
use Rattle.std.specs.Prelude.{slice_get, slice_set, slice_index_or}
use Rattle.std.proofs.Math.Seq.{set-append_seam}
use Rattle.std.proofs.lemmas.List.{length-map, map-append, map-set, length-set, get_or_append_left}
use Rattle.std.proofs.lemmas.List.Elements.{All-push, All-set}
use Rattle.std.proofs.lemmas.Option.{slice_get_within, get_or_from_slice_get}
use Rattle.std.proofs.lemmas.Grind.{common_steps}
use Rattle.pb_base.specs.declared.pair.Pair.{Pair}
use Rattle.pb_code.specs.declared.instr.Instr.{Instr as Given}
use Rattle.pb_code.specs.declared.instr.Instr.TheVariants as given
use Rattle.pb_code.specs.Code.{Instr, Take, Give}
use Rattle.pb_code.specs.Bundles.{IsPlain, NamesBelow, Extends}
use Rattle.pb_code.specs.View.{instr_view}
use Rattle.pb_code.proofs.BundleTables.{plain_same, plain_names, views_kept, names_kept}
use Rattle.pb_generator.specs.Emitted.{seen, place, IsSound, Adds, Replaces}
use Rattle.pb_generator.specs.declared.writer.Writer.{Writer}

pub get_back : {X : Type 0} (xs ys : List X) (i : ℕ) → slice_get (xs ++ ys) (length xs + i) ≡ slice_get ys i
get_back [] ys i = ap (slice_get ys) (omega arith)
get_back (y ∷ xs) ys i =
    let e : length (y ∷ xs) + i ≡ suc (length xs + i) = omega arith in
    ap (slice_get (y ∷ xs ++ ys)) e ∙ get_back xs ys i

abbrev Bundles : Type 0
Bundles = List (List Pair)

-- ---- parts one after another

pub adds_nothing : (w : Writer) → IsSound w → Adds w w [] []
adds_nothing w sound = record {
  coded = sym (append-nil (seen w));
  lined = sym (append-nil w.lines.items);
  kept = ([], sym (append-nil w.bundles.items));
  sound = sound;
}

pub adds_then : {a b c : Writer} {code more : List Instr} {lines others : List (Option ℕ)}
    → Adds a b code lines → Adds b c more others → Adds a c (code ++ more) (lines ++ others)
adds_then {a} {b} {c} {code} {more} {lines} {others} h k = record {
  coded = k.coded ∙ ap (λ is. is ++ more) h.coded ∙ append_assoc (seen a) code more;
  lined = k.lined ∙ ap (λ ls. ls ++ others) h.lined ∙ append_assoc a.lines.items lines others;
  kept = (
    h.kept.0 ++ k.kept.0,
    k.kept.1 ∙ ap (λ (bs : Bundles). bs ++ k.kept.0) h.kept.1 ∙ append_assoc a.bundles.items h.kept.0 k.kept.0,
  );
  sound = k.sound;
}

pub adds_as : {a b : Writer} {code other : List Instr} {lines others : List (Option ℕ)}
    → Adds a b code lines → code ≡ other → lines ≡ others → Adds a b other others
adds_as {a} {b} {code} {other} {lines} {others} h c l = record {
  coded = h.coded ∙ ap (λ is. seen a ++ is) c;
  lined = h.lined ∙ ap (λ ls. a.lines.items ++ ls) l;
  kept = h.kept;
  sound = h.sound;
}

pub length-seen : (w : Writer) → length (seen w) ≡ place w
length-seen w = length-map w.instrs.items (instr_view w.bundles.items)

-- the next place is after the code
pub adds-place : {a b : Writer} {code : List Instr} {lines : List (Option ℕ)}
    → Adds a b code lines → place b ≡ place a + length code
adds-place {a} {b} {code} h =
    omega (arith, length-seen a, length-seen b, ap length h.coded, length-append (seen a) code)

-- ---- one instruction

last_at : (xs : Bundles) (x : List Pair) (k : ℕ) → k ≡ length xs → slice_index_or (xs ++ x ∷ []) k [] ≡ x
last_at xs x k at = grind (arith, common_steps)

pub got_last : (xs ys : Bundles) (x : List Pair) (k : ℕ) → k ≡ length xs → ys ≡ xs ++ x ∷ []
    → slice_get ys k ≡ Some x
got_last xs ys x k at pushed =
    ap (λ (bs : Bundles). slice_get bs k) pushed ∙ ap (slice_get (xs ++ x ∷ [])) (at ∙ more) ∙ get_back xs (x ∷ []) 0
  where
    more : length xs ≡ length xs + 0
    more = omega arith

-- a bundle and the take that names it
pub put_bundle : (old new : Writer) (bundle : List Pair) (k : ℕ) (line : Option ℕ)
    → IsSound old → k ≡ length old.bundles.items → new.bundles.items ≡ old.bundles.items ++ bundle ∷ []
    → new.instrs.items ≡ old.instrs.items ++ given.Take k ∷ [] → new.lines.items ≡ old.lines.items ++ line ∷ []
    → Adds old new (Take bundle ∷ []) (line ∷ [])
put_bundle old new bundle k line sound at bundles instrs lines =
    let more : Extends old.bundles.items new.bundles.items = (bundle ∷ [], bundles) in
    let longer : length new.bundles.items ≡ length old.bundles.items + 1 =
    omega (arith, ap (λ (bs : Bundles). length bs) bundles, length-append old.bundles.items (bundle ∷ [])) in
    let named : slice_index_or new.bundles.items k [] ≡ bundle =
    ap (λ (bs : Bundles). slice_index_or bs k []) bundles ∙ last_at old.bundles.items bundle k at in
    record {
      coded =
          ap (λ is. map (instr_view new.bundles.items) is) instrs
          ∙ map-append (instr_view new.bundles.items) old.instrs.items (given.Take k ∷ [])
          ∙ ap (λ is. is ++ Take (slice_index_or new.bundles.items k []) ∷ [])
          (views_kept old.bundles.items new.bundles.items old.instrs.items more sound.named)
          ∙ ap (λ b. seen old ++ Take b ∷ []) named;
      lined = lines;
      kept = more;
      sound = record {
        named =
            subst (All (NamesBelow (length new.bundles.items))) (sym instrs)
            (All-push (NamesBelow (length new.bundles.items)) old.instrs.items (given.Take k)
            (names_kept old.bundles.items new.bundles.items old.instrs.items more sound.named)
            (omega (arith, at, longer)));
        few =
            omega (
              arith,
              sound.few,
              longer,
              ap (λ (is : List Given). length is) instrs,
              length-append old.instrs.items (given.Take k ∷ []),
            );
      };
    }

-- a bundle stays where it is
pub bundle_kept : {a b : Writer} {code : List Instr} {lines : List (Option ℕ)} → Adds a b code lines
    → (k : ℕ) (bundle : List Pair) → slice_get a.bundles.items k ≡ Some bundle
    → (k < length b.bundles.items) × (instr_view b.bundles.items (given.Give k) ≡ Give bundle)
bundle_kept {a} {b} h k bundle there =
    let within : k < length a.bundles.items = slice_get_within a.bundles.items k bundle there in
    let longer : length a.bundles.items ≤ length b.bundles.items =
    omega (arith, ap (λ (bs : Bundles). length bs) h.kept.1, length-append a.bundles.items h.kept.0) in (
      omega arith,
      ap Give (ap (λ (bs : Bundles). slice_index_or bs k []) h.kept.1
          ∙ get_or_append_left a.bundles.items h.kept.0 [] k within
          ∙ get_or_from_slice_get a.bundles.items k bundle [] there),
    )

-- ---- an instruction in place of another

-- what names no bundle is put at a place
pub put_at : (old new : Writer) (at : ℕ) (i : Given) → IsSound old → IsPlain i
    → new.instrs.items ≡ slice_set old.instrs.items at i → new.lines.items ≡ old.lines.items
    → new.bundles.items ≡ old.bundles.items → Replaces old new at (instr_view [] i)
put_at old new at i sound plain instrs lines same =
    record {
      coded =
          ap (λ (bs : Bundles). map (instr_view bs) new.instrs.items) same
          ∙ ap (map (instr_view old.bundles.items)) instrs
          ∙ map-set (instr_view old.bundles.items) old.instrs.items at i
          ∙ ap (slice_set (seen old) at) (plain_same old.bundles.items [] i plain);
      lined = lines;
      kept = same;
      sound = record {
        named =
            subst (λ (bs : Bundles). All (NamesBelow (length bs)) new.instrs.items) (sym same)
            (subst (All (NamesBelow (length old.bundles.items))) (sym instrs)
            (All-set (NamesBelow (length old.bundles.items)) old.instrs.items at i (plain_names (length old.bundles.items) i plain) sound.named));
        few =
            omega (
              arith,
              sound.few,
              ap (λ (bs : Bundles). length bs) same,
              ap (λ (is : List Given). length is) instrs,
              length-set old.instrs.items at i,
            );
      };
    }

pub place-replaced : {b c : Writer} {at : ℕ} {j : Instr} → Replaces b c at j → place c ≡ place b
place-replaced {b} {c} {at} {j} r =
    omega (arith, length-seen b, length-seen c, ap length r.coded, length-set (seen b) at j)

-- an instruction that was added is replaced
pub replaced : {a b c : Writer} {lines : List (Option ℕ)} (front back : List Instr) (i j : Instr) (at : ℕ)
    → Adds a b (front ++ i ∷ back) lines → Replaces b c at j → at ≡ place a + length front
    → Adds a c (front ++ j ∷ back) lines
replaced {a} {b} {c} front back i j at h r here =
    let far : at ≡ length (seen a ++ front) =
    omega (arith, here, length-seen a, length-append (seen a) front) in
    record {
      coded =
          r.coded ∙ ap (λ is. slice_set is at j) (h.coded ∙ sym (append_assoc (seen a) front (i ∷ back)))
          ∙ ap (λ k. slice_set ((seen a ++ front) ++ i ∷ back) k j) far
          ∙ set-append_seam (seen a ++ front) i back j
          ∙ append_assoc (seen a) front (j ∷ back);
      lined = r.lined ∙ h.lined;
      kept = (h.kept.0, r.kept ∙ h.kept.1);
      sound = r.sound;
    }
