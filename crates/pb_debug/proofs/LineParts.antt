-- Lines that come in parts.
use Rattle.std.proofs.Common.{◌≡◌, inl, inr, ℕ, ◌+◌, ◌-◌, ◌<◌, ◌≤◌, ◌++◌, eqb, false, List, []}
use Rattle.std.proofs.Common.{◌∷◌, length, take, drop, Option, Some, None, refl, sym, ap, ◌∙◌, subst, arith}
use Rattle.std.proofs.Common.{append_assoc, append-nil, length-append, ◌≢◌, Result, Ok, Err}
use Rattle.std.specs.Prelude.{IfErr, OnOk, ⊤}
use Rattle.std.proofs.lemmas.Bool.{cases_lt}
use Rattle.std.proofs.lemmas.List.{take_all, length-take-le, length-drop}
use Rattle.std.proofs.Math.Seq.{take-add}
use Rattle.pb_base.specs.Device.{appended, dropped, AddsPrefix, GivesNext, LeavesRest}
use Rattle.pb_debug.specs.Answers.{AnswersLine, AnswersRead}
use Rattle.pb_debug_commands.specs.Buffers.{kept}
use Rattle.pb_debug_commands.specs.Commands.{Command}
use Rattle.pb_debug_commands.specs.Lines.{SplitLines, cut, last_line, lines_of}
use Rattle.pb_debug.specs.Sessions.{Session, nothing, one_more, session_bytes, SaysAll, SaysSome, IsTold}
use Rattle.pb_debug.specs.Sessions.{SessionStopsAt, WritesBeforeFault, Fed, FedSome, BreaksOff, IsToldInPart, CountsWrites}
use Rattle.pb_debug.specs.Value.{Debugging}
use Rattle.pb_debug.specs.declared.fault.DebugFault.{DebugFault}
use Rattle.pb_debug.specs.declared.fault.DebugFault.TheVariants.{PastEnd, NoProcess, NoArm, BadCommand, NoMemory}
use Rattle.pb_debug.specs.declared.fault.DebugFault.TheVariants.{Device}
use Rattle.pb_debug_commands.proofs.Cutting.{cut-append, first_lines, cut_end, cut_byte}
use Rattle.pb_debug_commands.proofs.Outputs.{appended_none, prefix_more, whole_prefix}
use Rattle.pb_debug_commands.proofs.Kept.{kept_again, kept_says, kept_nothing}
use Rattle.pb_base.proofs.DeviceLemmas.{appended-appended, next-bytes}

-- ---- commands

pub kept_answers : (d : Debugging) (line said : List ℕ) (next : Debugging) → AnswersLine d (kept line) said next → AnswersLine d line said next
kept_answers d line said next h = subst (λ (c : Option Command). AnswersRead d c said next) (kept_says line) h

-- ---- outputs

-- what is left of a text after what is written
pub leaves_more : (fault : DebugFault) (old mid new : Option (List ℕ)) (a b : List ℕ) → mid ≡ appended old a → WritesBeforeFault
    fault mid new b → WritesBeforeFault fault old new (a ++ b)
leaves_more PastEnd old mid new a b e h = elim h [ ]
leaves_more NoProcess old mid new a b e h = elim h [ ]
leaves_more NoArm old mid new a b e h = elim h [ ]
leaves_more BadCommand old mid new a b e h = elim h [ ]
leaves_more NoMemory old mid new a b e h = h ∙ (ap (λ o. appended o b) e ∙ appended-appended old a b)
leaves_more Device old mid new a b e h = prefix_more old mid new a b e h

-- ---- sessions

pub sessions : (d m n : Debugging) (l1 l2 : List (List ℕ)) (t1 t2 : List ℕ) → Session d l1 t1 m → Session m l2 t2 n
    → Session d (l1 ++ l2) (t1 ++ t2) n
sessions d m n l1 l2 t1 t2 first nothing =
    subst (λ (t : List ℕ). Session d (l1 ++ []) t m) (sym (append-nil t1))
    (subst (λ (ls : List (List ℕ)). Session d ls t1 m) (sym (append-nil l1)) first)
sessions d m n l1 l2 t1 t2 first (one_more lines text mid line said next before answers) =
    subst (λ (t : List ℕ). Session d (l1 ++ (lines ++ line ∷ [])) t next) (append_assoc t1 text said)
    (subst (λ (ls : List (List ℕ)). Session d ls ((t1 ++ text) ++ said) next) (append_assoc l1 lines (line ∷ []))
    (one_more (l1 ++ lines) (t1 ++ text) mid line said next (sessions d m mid l1 lines t1 text first before) answers))

pub fed_nothing : (d : Debugging) (part line : List ℕ) (old : Option (List ℕ)) → line ≡ kept part → Fed d part [] old old line d
fed_nothing d part line old e = record { text = []; session = nothing; written = sym (appended_none old); last = e }

module _ (d m next : Debugging) (part xs : List ℕ) (old mid new : Option (List ℕ)) (line : List ℕ) (fed : Fed d part xs old mid line m) where
  -- a line feed: the line is answered
  pub fed_line : IsTold m line mid new next → Fed d part (xs ++ 10 ∷ []) old new [] next
  fed_line (said, answers, written) =
      let c = cut part xs in
      let says = kept_answers m c.rest said next (subst (λ (l : List ℕ). AnswersLine m l said next) fed.last answers) in
      record {
        text = fed.text ++ said;
        session =
            subst (λ (k : SplitLines). Session d k.lines (fed.text ++ said) next) (sym (cut_end part xs))
            (one_more c.lines fed.text m c.rest said next fed.session says);
        written = written ∙ (ap (λ o. appended o said) fed.written ∙ appended-appended old fed.text said);
        last = ap (λ (k : SplitLines). kept k.rest) (sym (cut_end part xs));
      }

  -- any other byte is kept
  pub fed_byte : (b : ℕ) (line' : List ℕ) → eqb b 10 ≡ false → line' ≡ kept (line ++ b ∷ []) → Fed d part (xs ++ b ∷ []) old mid line' m
  fed_byte b line' other e =
      let c = cut part xs in
      record {
        text = fed.text;
        session = subst (λ (k : SplitLines). Session d k.lines fed.text m) (sym (cut_byte part xs b other)) fed.session;
        written = fed.written;
        last =
            e ∙ (ap (λ (l : List ℕ). kept (l ++ b ∷ [])) fed.last
            ∙ (kept_again c.rest b ∙ ap (λ (k : SplitLines). kept k.rest) (sym (cut_byte part xs b other))));
      }

  -- what was fed are some first lines of more
  pub fed_some : (fault : DebugFault) (ys : List ℕ) → WritesBeforeFault fault old mid fed.text → FedSome fault d part (xs ++ ys) old mid m
  fed_some fault ys leaves = record {
    lines = (cut part xs).lines;
    later = (cut (cut part xs).rest ys).lines;
    text = fed.text;
    of = first_lines part xs ys;
    session = fed.session;
    written = leaves;
  }

  -- a read failed after them
  pub fed_broken : (ys : List ℕ) → FedSome Device d part (xs ++ ys) old mid m
  fed_broken ys = fed_some Device ys (whole_prefix old mid fed.text fed.written)

  -- it stops at a line feed
  pub fed_stop : (ys : List ℕ) (fault : DebugFault) → SessionStopsAt fault m line mid new next → FedSome fault d part (xs ++ 10 ∷ ys) old new next
  fed_stop ys PastEnd stop = elim stop [ ]
  fed_stop ys NoProcess stop = elim stop [ ]
  fed_stop ys NoArm stop = elim stop [ ]
  fed_stop ys BadCommand stop = elim stop [ ]
  fed_stop ys NoMemory (same, none) =
      let Some' : Option (List ℕ) → Debugging → Type 0 = λ o e. FedSome NoMemory d part (xs ++ 10 ∷ ys) old o e in
      subst (λ o. Some' o next) (sym none) (subst (λ e. Some' mid e) (sym same) (fed_some NoMemory (10 ∷ ys) fed.written))
  fed_stop ys Device (said, answers, written) =
      let c = cut part xs in
      let says = kept_answers m c.rest said next (subst (λ (l : List ℕ). AnswersLine m l said next) fed.last answers) in
      let bytes : (xs ++ 10 ∷ []) ++ ys ≡ xs ++ 10 ∷ ys = append_assoc xs (10 ∷ []) ys in
      let lines = first_lines part (xs ++ 10 ∷ []) ys in
      let ends = cut_end part xs in
      record {
        lines = c.lines ++ c.rest ∷ [];
        later = (cut [] ys).lines;
        text = fed.text ++ said;
        of =
            ap (λ (bs : List ℕ). (cut part bs).lines) (sym bytes)
            ∙ (lines ∙ ap (λ (k : SplitLines). k.lines ++ (cut k.rest ys).lines) ends);
        session = one_more c.lines fed.text m c.rest said next fed.session says;
        written = prefix_more old mid new fed.text said fed.written written;
      }

  -- a write failed at a line feed
  pub fed_breaks : (ys : List ℕ) → IsToldInPart m line mid new next → BreaksOff d (cut part (xs ++ 10 ∷ ys)).lines old new next
  fed_breaks ys (said, answers, written) =
      let c = cut part xs in
      let says = kept_answers m c.rest said next (subst (λ (l : List ℕ). AnswersLine m l said next) fed.last answers) in
      let bytes : (xs ++ 10 ∷ []) ++ ys ≡ xs ++ 10 ∷ ys = append_assoc xs (10 ∷ []) ys in
      let lines = first_lines part (xs ++ 10 ∷ []) ys in
      let ends = cut_end part xs in
      record {
        earlier = c.lines;
        failed = c.rest;
        later = (cut [] ys).lines;
        text = fed.text;
        mid = m;
        of =
            ap (λ (bs : List ℕ). (cut part bs).lines) (sym bytes)
            ∙ (lines
            ∙ (ap (λ (k : SplitLines). k.lines ++ (cut k.rest ys).lines) ends
            ∙ append_assoc c.lines (c.rest ∷ []) (cut [] ys).lines));
        session = fed.session;
        told = (said, says, subst (λ o. AddsPrefix o new said) fed.written written);
      }

  -- more bytes
  pub fed_fed : (ys line' : List ℕ) → Fed m (cut part xs).rest ys mid new line' next → Fed d part (xs ++ ys) old new line' next
  fed_fed ys line' more = record {
    text = fed.text ++ more.text;
    session =
        subst (λ (ls : List (List ℕ)). Session d ls (fed.text ++ more.text) next) (sym (first_lines part xs ys))
        (sessions d m next _ _ fed.text more.text fed.session more.session);
    written = more.written ∙ (ap (λ o. appended o more.text) fed.written ∙ appended-appended old fed.text more.text);
    last = more.last ∙ ap (λ (k : SplitLines). kept k.rest) (sym (cut-append part xs ys));
  }

  pub fed_then_some : (fault : DebugFault) (ys : List ℕ) → FedSome fault m (cut part xs).rest ys mid new next → FedSome fault d part (xs ++ ys) old new next
  fed_then_some fault ys more = record {
    lines = (cut part xs).lines ++ more.lines;
    later = more.later;
    text = fed.text ++ more.text;
    of =
        first_lines part xs ys
        ∙ (ap (λ (ls : List (List ℕ)). (cut part xs).lines ++ ls) more.of
        ∙ sym (append_assoc (cut part xs).lines more.lines more.later));
    session = sessions d m next _ _ fed.text more.text fed.session more.session;
    written = leaves_more fault old mid new fed.text more.text fed.written more.written;
  }

  -- a write failed at a line of more bytes
  pub fed_then_breaks : (ys : List ℕ) → BreaksOff m (cut (cut part xs).rest ys).lines mid new next → BreaksOff d (cut part (xs ++ ys)).lines old new next
  fed_then_breaks ys more =
      let first = (cut part xs).lines in
      record {
        earlier = first ++ more.earlier;
        failed = more.failed;
        later = more.later;
        text = fed.text ++ more.text;
        mid = more.mid;
        of =
            first_lines part xs ys
            ∙ (ap (λ (ls : List (List ℕ)). first ++ ls) more.of
            ∙ sym (append_assoc first more.earlier (more.failed ∷ more.later)));
        session = sessions d m more.mid _ _ fed.text more.text fed.session more.session;
        told = (
          more.told.0,
          more.told.1,
          subst (λ o. AddsPrefix o new more.told.0)
              (ap (λ o. appended o more.text) fed.written ∙ appended-appended old fed.text more.text) more.told.2,
        );
      }

-- ---- a write fails

-- if another count of failed writes is there, a write failed
pub write_failed : (fault : DebugFault) (m next : Debugging) (line : List ℕ) (mid new : Option (List ℕ)) (before after : ℕ)
    → SessionStopsAt fault m line mid new next → CountsWrites fault before after → after ≢ before → IsToldInPart m line mid new next
write_failed PastEnd m next line mid new before after stop counts grew = elim stop [ ]
write_failed NoProcess m next line mid new before after stop counts grew = elim stop [ ]
write_failed NoArm m next line mid new before after stop counts grew = elim stop [ ]
write_failed BadCommand m next line mid new before after stop counts grew = elim stop [ ]
write_failed NoMemory m next line mid new before after stop counts grew = absurd (grew counts)
write_failed Device m next line mid new before after stop counts grew = stop

pub told_in_part : (r : Result ⊤ DebugFault) (m next : Debugging) (line : List ℕ) (mid new : Option (List ℕ)) (before after : ℕ)
    → IfErr r (λ e. SessionStopsAt e m line mid new next) → OnOk r (after ≡ before) → IfErr r (λ e. CountsWrites e before after)
    → after ≢ before → IsToldInPart m line mid new next
told_in_part (Ok x) m next line mid new before after stop same counts grew = absurd (grew same)
told_in_part (Err e) m next line mid new before after stop same counts grew = write_failed e m next line mid new before after stop counts grew

-- more lines are after the one that failed
pub breaks_before : (d next : Debugging) (lines more whole : List (List ℕ)) (old new : Option (List ℕ)) → BreaksOff d lines old new next
    → whole ≡ lines ++ more → BreaksOff d whole old new next
breaks_before d next lines more whole old new breaks is = record {
  earlier = breaks.earlier;
  failed = breaks.failed;
  later = breaks.later ++ more;
  text = breaks.text;
  mid = breaks.mid;
  of = is ∙ (ap (λ (ls : List (List ℕ)). ls ++ more) breaks.of ∙ append_assoc breaks.earlier (breaks.failed ∷ breaks.later) more);
  session = breaks.session;
  told = breaks.told;
}

-- so it is of more bytes still
pub some_of_more : (fault : DebugFault) (d next : Debugging) (part xs ys : List ℕ) (old new : Option (List ℕ)) → FedSome fault d part xs old new next
    → FedSome fault d part (xs ++ ys) old new next
some_of_more fault d next part xs ys old new some = record {
  lines = some.lines;
  later = some.later ++ (cut (cut part xs).rest ys).lines;
  text = some.text;
  of =
      first_lines part xs ys
      ∙ (ap (λ (ls : List (List ℕ)). ls ++ (cut (cut part xs).rest ys).lines) some.of
      ∙ append_assoc some.lines some.later (cut (cut part xs).rest ys).lines);
  session = some.session;
  written = some.written;
}

-- ---- all lines of an input

pub says_some : (fault : DebugFault) (d next : Debugging) (bytes : List ℕ) (old new : Option (List ℕ)) → FedSome fault d [] (session_bytes bytes) old new next
    → SaysSome fault d bytes old new next
says_some fault d next bytes old new some =
    let last = last_line (cut [] (session_bytes bytes)).rest in
    record {
      lines = some.lines;
      later = some.later ++ last;
      text = some.text;
      of = ap (λ (ls : List (List ℕ)). ls ++ last) some.of ∙ append_assoc some.lines some.later last;
      session = some.session;
      written = some.written;
    }

module _ (d m : Debugging) (bytes : List ℕ) (old mid : Option (List ℕ)) (line : List ℕ) (fed : Fed d [] (session_bytes bytes) old mid line m) where
  abbrev whole : SplitLines
  whole = cut [] (session_bytes bytes)

  -- nothing is left behind the last line feed
  pub says_all : length line ≡ 0 → SaysAll d bytes old mid m
  says_all empty =
      let none : whole.rest ≡ [] = kept_nothing whole.rest (sym (ap length fed.last) ∙ empty) in
      let lines : whole.lines ≡ lines_of (session_bytes bytes) =
      sym (append-nil whole.lines) ∙ ap (λ (r : List ℕ). whole.lines ++ last_line r) (sym none) in
      record {
        text = fed.text;
        session = subst (λ (ls : List (List ℕ)). Session d ls fed.text m) lines fed.session;
        written = fed.written;
      }

  last_is : (r : List ℕ) → 0 < length r → last_line r ≡ r ∷ []
  last_is [] some = absurd (omega arith)
  last_is (b ∷ bs) some = refl

  some_left : 0 < length line → 0 < length whole.rest
  some_left some = elim (cases_lt 0 (length whole.rest)) [
    | inl lt ↦ lt
    | inr le ↦ (
        let short : kept whole.rest ≡ whole.rest = take_all 257 whole.rest (omega (arith, le)) in
        let size : length line ≡ length whole.rest = ap length (fed.last ∙ short) in
        omega (arith, size, some, le))
  ]

  -- the last line has no line feed
  pub says_last : (next : Debugging) (new : Option (List ℕ)) → 0 < length line → IsTold m line mid new next → SaysAll d bytes old new next
  says_last next new some (said, answers, written) =
      let says = kept_answers m whole.rest said next (subst (λ (l : List ℕ). AnswersLine m l said next) fed.last answers) in
      let lines : whole.lines ++ whole.rest ∷ [] ≡ lines_of (session_bytes bytes) =
      ap (λ (ls : List (List ℕ)). whole.lines ++ ls) (sym (last_is whole.rest (some_left some))) in
      record {
        text = fed.text ++ said;
        session =
            subst (λ (ls : List (List ℕ)). Session d ls (fed.text ++ said) next) lines
            (one_more whole.lines fed.text m whole.rest said next fed.session says);
        written = written ∙ (ap (λ o. appended o said) fed.written ∙ appended-appended old fed.text said);
      }

  -- it stops there
  pub says_stop : (next : Debugging) (new : Option (List ℕ)) (fault : DebugFault) → 0 < length line → SessionStopsAt fault m line mid new next
      → SaysSome fault d bytes old new next
  says_stop next new PastEnd some stop = elim stop [ ]
  says_stop next new NoProcess some stop = elim stop [ ]
  says_stop next new NoArm some stop = elim stop [ ]
  says_stop next new BadCommand some stop = elim stop [ ]
  says_stop next new NoMemory some (same, none) =
      let here : SaysSome NoMemory d bytes old mid m = record {
        lines = whole.lines;
        later = last_line whole.rest;
        text = fed.text;
        of = refl;
        session = fed.session;
        written = fed.written;
      } in
      subst (λ o. SaysSome NoMemory d bytes old o next) (sym none) (subst (λ e. SaysSome NoMemory d bytes old mid e) (sym same) here)
  says_stop next new Device some (said, answers, written) =
      let says = kept_answers m whole.rest said next (subst (λ (l : List ℕ). AnswersLine m l said next) fed.last answers) in
      let lines : lines_of (session_bytes bytes) ≡ (whole.lines ++ whole.rest ∷ []) ++ [] =
      ap (λ (ls : List (List ℕ)). whole.lines ++ ls) (last_is whole.rest (some_left some)) ∙ sym (append-nil (whole.lines ++ whole.rest ∷ [])) in
      record {
        lines = whole.lines ++ whole.rest ∷ [];
        later = [];
        text = fed.text ++ said;
        of = lines;
        session = one_more whole.lines fed.text m whole.rest said next fed.session says;
        written = prefix_more old mid new fed.text said fed.written written;
      }

  -- a write failed there
  pub says_breaks : (next : Debugging) (new : Option (List ℕ)) → 0 < length line → IsToldInPart m line mid new next
      → BreaksOff d (lines_of (session_bytes bytes)) old new next
  says_breaks next new some (said, answers, written) =
      let says = kept_answers m whole.rest said next (subst (λ (l : List ℕ). AnswersLine m l said next) fed.last answers) in
      record {
        earlier = whole.lines;
        failed = whole.rest;
        later = [];
        text = fed.text;
        mid = m;
        of = ap (λ (ls : List (List ℕ)). whole.lines ++ ls) (last_is whole.rest (some_left some));
        session = fed.session;
        told = (said, says, subst (λ o. AddsPrefix o new said) fed.written written);
      }

pub fed_as : (d : Debugging) (part : List ℕ) (old : Option (List ℕ)) (next next' : Debugging) (xs xs' : List ℕ) (new
    new' : Option (List ℕ)) (line line' : List ℕ)
    → Fed d part xs old new line next → xs ≡ xs' → new ≡ new' → line ≡ line' → next ≡ next' → Fed d part xs' old new' line' next'
fed_as d part old next next' xs xs' new new' line line' fed a b c e =
    subst (λ n. Fed d part xs' old new' line' n) e (subst (λ l. Fed d part xs' old new' l next) c
    (subst (λ o. Fed d part xs' old o line next) b (subst (λ x. Fed d part x old new line next) a fed)))

-- ---- reading

-- the bytes of a session begin with those that were read
pub session_more : (bytes : List ℕ) (k : ℕ) → k ≤ 4194304 → (ys : List ℕ) × (take k bytes ++ ys ≡ session_bytes bytes)
session_more bytes k le =
    let whole : k + (4194304 - k) ≡ 4194304 = omega arith in
    (take (4194304 - k) (drop k bytes), sym (take-add k (4194304 - k) bytes) ∙ ap (λ n. take n bytes) whole)

-- if nothing is left, all was read
pub bytes_end : (bytes : List ℕ) (k : ℕ) → drop k bytes ≡ [] → k ≤ 4194304 → take k bytes ≡ session_bytes bytes
bytes_end bytes k none le =
    let size = length-drop k bytes in
    let zero' : length (drop k bytes) ≡ 0 = ap (λ (xs : List ℕ). length xs) none in
    let short : length bytes ≤ k = omega (arith, size, zero') in
    take_all k bytes short ∙ sym (take_all 4194304 bytes (omega (arith, short, le)))

-- ---- how many bytes are taken

-- nothing was read
pub takes_none : (o : Option (List ℕ)) (most : ℕ) → LeavesRest o o most
takes_none None most = ([], omega arith, refl)
takes_none (Some bytes) most = ([], omega arith, refl)

-- one more read
pub takes_more : (old now new : Option (List ℕ)) (buf : List ℕ) (n k most : ℕ) → LeavesRest old now k → GivesNext now buf n → new ≡ dropped now n
    → n ≤ length buf → k + n ≤ most → LeavesRest old new most
takes_more old now new buf n k most (read, few, is) given taken within enough =
    let sum = length-append read (take n buf) in
    let part = length-take-le n buf within in
    (read ++ take n buf, omega (arith, few, sum, part, enough), next-bytes old now new read buf n is given taken)

-- a larger number
pub takes_fewer : (old new : Option (List ℕ)) (k most : ℕ) → LeavesRest old new k → k ≤ most → LeavesRest old new most
takes_fewer old new k most (read, few, is) enough = (read, omega (arith, few, enough), is)
