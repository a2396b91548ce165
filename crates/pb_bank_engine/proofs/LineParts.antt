-- Lines that come in parts.
use Rattle.std.proofs.Common.{◌≡◌, ℕ, ◌+◌, ◌-◌, ◌<◌, ◌≤◌, ◌++◌, eqb, false, List, []}
use Rattle.std.proofs.Common.{◌∷◌, length, take, drop, Option, Some, refl, sym, ap, ◌∙◌, subst, arith}
use Rattle.std.proofs.Common.{append_assoc, append-nil}
use Rattle.std.proofs.Common.{Result, Ok, Err}
use Rattle.std.specs.Prelude.{OnOk, OnErr}
use Rattle.std.proofs.lemmas.List.{take_all, length-drop}
use Rattle.std.proofs.Math.Seq.{take-add}
use Rattle.pb_base.specs.Device.{appended, AddsPrefix}
use Rattle.pb_bank.specs.Answers.{AnswersLine}
use Rattle.pb_bank.specs.Desks.{DeskValue, NoneIsAllowed}
use Rattle.pb_bank.specs.Sayings.{Saying}
use Rattle.pb_bank_engine.specs.Forms.{spoken, text_of}
use Rattle.pb_voice.specs.declared.form.Form.{Form}
use Rattle.pb_debug_commands.specs.Lines.{SplitLines, cut, last_line, lines_of}
use Rattle.pb_bank_engine.specs.Sessions.{Session, nothing, one_more, session_bytes, SaysAll, SaysSome, IsTold, kept, kept_with}
use Rattle.pb_bank_engine.specs.Sessions.{StopsAt, WritesBefore, Fed, FedSome}
use Rattle.pb_bank_engine.specs.declared.session.Stop.{Stop}
use Rattle.pb_bank_engine.specs.declared.session.Stop.TheVariants.{Memory, Device}
use Rattle.pb_debug_commands.proofs.Cutting.{cut-append, first_lines, cut_end, cut_byte}
use Rattle.pb_debug_commands.proofs.Outputs.{appended_none, prefix_more, whole_prefix}
use Rattle.pb_bank_engine.proofs.Kept.{blank_answer, kept_again, kept_answers}
use Rattle.pb_base.proofs.DeviceLemmas.{appended-appended}

-- ---- outputs

-- what is left of a text after what is written
pub leaves_more : (stop : Stop) (old mid new : Option (List ℕ)) (a b : List ℕ) → mid ≡ appended old a → WritesBefore
    stop mid new b → WritesBefore stop old new (a ++ b)
leaves_more Memory old mid new a b e h = h ∙ (ap (λ o. appended o b) e ∙ appended-appended old a b)
leaves_more Device old mid new a b e h = prefix_more old mid new a b e h

some_is : (page text : List ℕ) → Some page ≡ appended (Some []) text → page ≡ text
some_is page text e = cc

pub spoken_both : (form : Form) (a b : List Saying) → spoken form (a ++ b) ≡ spoken form a ++ spoken form b
spoken_both form [] b = refl
spoken_both form (x ∷ a) b =
    ap (λ (t : List ℕ). text_of form x ++ t) (spoken_both form a b) ∙ sym (append_assoc (text_of form x) (spoken form a) (spoken form b))

spoken_more : (form : Form) (old : Option (List ℕ)) (a b : List Saying)
    → appended (appended old (spoken form a)) (spoken form b) ≡ appended old (spoken form (a ++ b))
spoken_more form old a b =
    appended-appended old (spoken form a) (spoken form b) ∙ ap (λ (t : List ℕ). appended old t) (sym (spoken_both form a b))

leaves_spoken : (form : Form) (stop : Stop) (old mid new : Option (List ℕ)) (a b : List Saying) → mid ≡ appended old (spoken form a)
    → WritesBefore stop mid new (spoken form b) → WritesBefore stop old new (spoken form (a ++ b))
leaves_spoken form stop old mid new a b e h =
    subst (λ (t : List ℕ). WritesBefore stop old new t) (sym (spoken_both form a b))
    (leaves_more stop old mid new (spoken form a) (spoken form b) e h)

-- ---- sessions

pub sessions : (d m n : DeskValue) (l1 l2 : List (List ℕ)) (t1 t2 : List Saying) → Session d l1 t1 m → Session m l2 t2 n
    → Session d (l1 ++ l2) (t1 ++ t2) n
sessions d m n l1 l2 t1 t2 first nothing =
    subst (λ (t : List Saying). Session d (l1 ++ []) t m) (sym (append-nil t1))
    (subst (λ (ls : List (List ℕ)). Session d ls t1 m) (sym (append-nil l1)) first)
sessions d m n l1 l2 t1 t2 first (one_more lines text mid line said next before answers) =
    subst (λ (t : List Saying). Session d (l1 ++ (lines ++ line ∷ [])) t next) (append_assoc t1 text said)
    (subst (λ (ls : List (List ℕ)). Session d ls ((t1 ++ text) ++ said) next) (append_assoc l1 lines (line ∷ []))
    (one_more (l1 ++ lines) (t1 ++ text) mid line said next (sessions d m mid l1 lines t1 text first before) answers))

pub fed_nothing : (form : Form) (d : DeskValue) (part line : List ℕ) (old : Option (List ℕ)) → line ≡ kept part → Fed form d part [] old old line d
fed_nothing form d part line old e = record { said = []; session = nothing; written = sym (appended_none old); last = e }

module _ (form : Form) (d m next : DeskValue) (part xs : List ℕ) (old mid new : Option (List ℕ)) (line : List ℕ) (fed : Fed form d part xs old mid line m) where
  -- a line feed: the line is answered
  pub fed_line : IsTold form m line mid new next → Fed form d part (xs ++ 10 ∷ []) old new [] next
  fed_line (said, answers, written) =
      let c = cut part xs in
      let says = kept_answers m c.rest said next (subst (λ (l : List ℕ). AnswersLine m l said next) fed.last answers) in
      record {
        said = fed.said ++ said;
        session =
            subst (λ (k : SplitLines). Session d k.lines (fed.said ++ said) next) (sym (cut_end part xs))
            (one_more c.lines fed.said m c.rest said next fed.session says);
        written = written ∙ (ap (λ o. appended o (spoken form said)) fed.written ∙ spoken_more form old fed.said said);
        last = ap (λ (k : SplitLines). kept k.rest) (sym (cut_end part xs));
      }

  -- any other byte is kept
  pub fed_byte : (b : ℕ) (line' : List ℕ) → eqb b 10 ≡ false → line' ≡ kept_with line b → Fed form d part (xs ++ b ∷ []) old mid line' m
  fed_byte b line' other e =
      let c = cut part xs in
      record {
        said = fed.said;
        session = subst (λ (k : SplitLines). Session d k.lines fed.said m) (sym (cut_byte part xs b other)) fed.session;
        written = fed.written;
        last =
            e ∙ (ap (λ (l : List ℕ). kept_with l b) fed.last
            ∙ (kept_again c.rest b ∙ ap (λ (k : SplitLines). kept k.rest) (sym (cut_byte part xs b other))));
      }

  -- what was fed are some first lines of more
  pub fed_some : (stop : Stop) (ys : List ℕ) → WritesBefore stop old mid (spoken form fed.said) → FedSome form stop d part (xs ++ ys) old mid
  fed_some stop ys leaves = record {
    lines = (cut part xs).lines;
    later = (cut (cut part xs).rest ys).lines;
    said = fed.said;
    end = m;
    of = first_lines part xs ys;
    session = fed.session;
    written = leaves;
  }

  -- a read failed after them
  pub fed_broken : (ys : List ℕ) → FedSome form Device d part (xs ++ ys) old mid
  fed_broken ys = fed_some Device ys (whole_prefix old mid (spoken form fed.said) fed.written)

  -- it is out of memory at a line feed
  pub fed_stop : (ys : List ℕ) → new ≡ mid → FedSome form Memory d part (xs ++ ys) old new
  fed_stop ys same = subst (λ o. FedSome form Memory d part (xs ++ ys) old o) (sym same) (fed_some Memory ys fed.written)

  -- more bytes
  pub fed_fed : (ys line' : List ℕ) → Fed form m (cut part xs).rest ys mid new line' next → Fed form d part (xs ++ ys) old new line' next
  fed_fed ys line' more = record {
    said = fed.said ++ more.said;
    session =
        subst (λ (ls : List (List ℕ)). Session d ls (fed.said ++ more.said) next) (sym (first_lines part xs ys))
        (sessions d m next _ _ fed.said more.said fed.session more.session);
    written = more.written ∙ (ap (λ o. appended o (spoken form more.said)) fed.written ∙ spoken_more form old fed.said more.said);
    last = more.last ∙ ap (λ (k : SplitLines). kept k.rest) (sym (cut-append part xs ys));
  }

  pub fed_then_some : (stop : Stop) (ys : List ℕ) → FedSome form stop m (cut part xs).rest ys mid new → FedSome form stop d part (xs ++ ys) old new
  fed_then_some stop ys more = record {
    lines = (cut part xs).lines ++ more.lines;
    later = more.later;
    said = fed.said ++ more.said;
    end = more.end;
    of =
        first_lines part xs ys
        ∙ (ap (λ (ls : List (List ℕ)). (cut part xs).lines ++ ls) more.of
        ∙ sym (append_assoc (cut part xs).lines more.lines more.later));
    session = sessions d m more.end _ _ fed.said more.said fed.session more.session;
    written = leaves_spoken form stop old mid new fed.said more.said fed.written more.written;
  }

-- some first lines of these bytes are some of more
pub some_of_more : (form : Form) (stop : Stop) (d : DeskValue) (part xs ys : List ℕ) (old new : Option (List ℕ)) → FedSome form stop d part xs old new
    → FedSome form stop d part (xs ++ ys) old new
some_of_more form stop d part xs ys old new some =
    let more = (cut (cut part xs).rest ys).lines in
    record {
      lines = some.lines;
      later = some.later ++ more;
      said = some.said;
      end = some.end;
      of =
          first_lines part xs ys
          ∙ (ap (λ (ls : List (List ℕ)). ls ++ more) some.of ∙ append_assoc some.lines some.later more);
      session = some.session;
      written = some.written;
    }

-- ---- a page that is written

-- what is on the page is written
pub page_fed : (form : Form) (d : DeskValue) (part bytes page : List ℕ) (old new : Option (List ℕ)) (line : List ℕ) (next : DeskValue)
    → Fed form d part bytes (Some []) (Some page) line next → new ≡ appended old page → Fed form d part bytes old new line next
page_fed form d part bytes page old new line next fed written = record {
  said = fed.said;
  session = fed.session;
  written = written ∙ ap (λ (t : List ℕ). appended old t) (some_is page (spoken form fed.said) fed.written);
  last = fed.last;
}

pub page_some : (form : Form) (d : DeskValue) (part bytes page : List ℕ) (old new : Option (List ℕ))
    → FedSome form Memory d part bytes (Some []) (Some page) → new ≡ appended old page → FedSome form Memory d part bytes old new
page_some form d part bytes page old new some written = record {
  lines = some.lines;
  later = some.later;
  said = some.said;
  end = some.end;
  of = some.of;
  session = some.session;
  written = written ∙ ap (λ (t : List ℕ). appended old t) (some_is page (spoken form some.said) some.written);
}

-- the page is not written whole
pub page_broken : (form : Form) (d : DeskValue) (part bytes page : List ℕ) (old new : Option (List ℕ)) (line : List ℕ) (next : DeskValue)
    → Fed form d part bytes (Some []) (Some page) line next → AddsPrefix old new page → FedSome form Device d part bytes old new
page_broken form d part bytes page old new line next fed written = record {
  lines = (cut part bytes).lines;
  later = [];
  said = fed.said;
  end = next;
  of = sym (append-nil (cut part bytes).lines);
  session = fed.session;
  written = subst (λ (t : List ℕ). AddsPrefix old new t) (some_is page (spoken form fed.said) fed.written) written;
}

pub page_some_broken : (form : Form) (d : DeskValue) (part bytes page : List ℕ) (old new : Option (List ℕ))
    → FedSome form Memory d part bytes (Some []) (Some page) → AddsPrefix old new page → FedSome form Device d part bytes old new
page_some_broken form d part bytes page old new some written = record {
  lines = some.lines;
  later = some.later;
  said = some.said;
  end = some.end;
  of = some.of;
  session = some.session;
  written = subst (λ (t : List ℕ). AddsPrefix old new t) (some_is page (spoken form some.said) some.written) written;
}

-- the page was empty
pub page_from : (form : Form) (d : DeskValue) (part bytes start : List ℕ) (new : Option (List ℕ)) (line : List ℕ) (next : DeskValue) → start ≡ []
    → Fed form d part bytes (Some start) new line next → Fed form d part bytes (Some []) new line next
page_from form d part bytes start new line next empty fed = subst (λ (t : List ℕ). Fed form d part bytes (Some t) new line next) empty fed

pub page_some_from : (form : Form) (d : DeskValue) (part bytes start : List ℕ) (new : Option (List ℕ)) → start ≡ []
    → FedSome form Memory d part bytes (Some start) new → FedSome form Memory d part bytes (Some []) new
page_some_from form d part bytes start new empty some = subst (λ (t : List ℕ). FedSome form Memory d part bytes (Some t) new) empty some

pub either : {A E : Type 0} (r : Result A E) (P Q X : Type 0) → OnOk r P → OnErr r Q → (P → X) → (Q → X) → X
either (Ok x) P Q X p q f h = f p
either (Err e) P Q X p q f h = h q

-- ---- all lines of an input

pub says_some : (form : Form) (stop : Stop) (d : DeskValue) (bytes : List ℕ) (old new : Option (List ℕ)) → FedSome form stop d [] (session_bytes bytes) old new
    → SaysSome form stop d bytes old new
says_some form stop d bytes old new some =
    let last = last_line (cut [] (session_bytes bytes)).rest in
    record {
      lines = some.lines;
      later = some.later ++ last;
      said = some.said;
      end = some.end;
      of = ap (λ (ls : List (List ℕ)). ls ++ last) some.of ∙ append_assoc some.lines some.later last;
      session = some.session;
      written = some.written;
    }

module _ (form : Form) (d m : DeskValue) (bytes : List ℕ) (old mid : Option (List ℕ)) (line : List ℕ) (fed : Fed form d [] (session_bytes bytes) old mid line m) where
  abbrev whole : SplitLines
  whole = cut [] (session_bytes bytes)

  -- nothing but blanks is after the last line feed
  last_blank : (r : List ℕ) → length (kept r) ≡ 0 → NoneIsAllowed m.bank.state m.wishes → Session d (whole.lines ++ last_line r) fed.said m
  last_blank [] empty none = subst (λ (ls : List (List ℕ)). Session d ls fed.said m) (sym (append-nil whole.lines)) fed.session
  last_blank (b ∷ bs) empty none =
      subst (λ (t : List Saying). Session d (whole.lines ++ (b ∷ bs) ∷ []) t m) (append-nil fed.said)
      (one_more whole.lines fed.said m (b ∷ bs) [] m fed.session (blank_answer m (b ∷ bs) empty none))

  pub says_all : length line ≡ 0 → NoneIsAllowed m.bank.state m.wishes → SaysAll form d bytes old mid m
  says_all empty none = record {
    said = fed.said;
    session = last_blank whole.rest (sym (ap (λ (l : List ℕ). length l) fed.last) ∙ empty) none;
    written = fed.written;
  }

  last_is : (r : List ℕ) → 0 < length r → last_line r ≡ r ∷ []
  last_is [] some = absurd (omega arith)
  last_is (b ∷ bs) some = refl

  some_kept : (r : List ℕ) → 0 < length (kept r) → 0 < length r
  some_kept [] some = absurd (omega (arith, some))
  some_kept (b ∷ bs) some = omega arith

  some_left : 0 < length line → 0 < length whole.rest
  some_left some =
      let size : length line ≡ length (kept whole.rest) = ap (λ (l : List ℕ). length l) fed.last in
      some_kept whole.rest (omega (arith, size, some))

  -- the last line has no line feed
  pub says_last : (next : DeskValue) (new : Option (List ℕ)) → 0 < length line → IsTold form m line mid new next → SaysAll form d bytes old new next
  says_last next new some (said, answers, written) =
      let says = kept_answers m whole.rest said next (subst (λ (l : List ℕ). AnswersLine m l said next) fed.last answers) in
      let lines : whole.lines ++ whole.rest ∷ [] ≡ lines_of (session_bytes bytes) =
      ap (λ (ls : List (List ℕ)). whole.lines ++ ls) (sym (last_is whole.rest (some_left some))) in
      record {
        said = fed.said ++ said;
        session =
            subst (λ (ls : List (List ℕ)). Session d ls (fed.said ++ said) next) lines
            (one_more whole.lines fed.said m whole.rest said next fed.session says);
        written = written ∙ (ap (λ o. appended o (spoken form said)) fed.written ∙ spoken_more form old fed.said said);
      }

  -- it stops there
  pub says_stop : (new : Option (List ℕ)) (stop : Stop) → 0 < length line → StopsAt form stop m line mid new → SaysSome form stop d bytes old new
  says_stop new Memory some none =
      let here : SaysSome form Memory d bytes old mid = record {
        lines = whole.lines;
        later = last_line whole.rest;
        said = fed.said;
        end = m;
        of = refl;
        session = fed.session;
        written = fed.written;
      } in
      subst (λ o. SaysSome form Memory d bytes old o) (sym none) here
  says_stop new Device some (next, (said, answers, written)) =
      let says = kept_answers m whole.rest said next (subst (λ (l : List ℕ). AnswersLine m l said next) fed.last answers) in
      let lines : lines_of (session_bytes bytes) ≡ (whole.lines ++ whole.rest ∷ []) ++ [] =
      ap (λ (ls : List (List ℕ)). whole.lines ++ ls) (last_is whole.rest (some_left some)) ∙ sym (append-nil (whole.lines ++ whole.rest ∷ [])) in
      record {
        lines = whole.lines ++ whole.rest ∷ [];
        later = [];
        said = fed.said ++ said;
        end = next;
        of = lines;
        session = one_more whole.lines fed.said m whole.rest said next fed.session says;
        written = leaves_spoken form Device old mid new fed.said said fed.written written;
      }

pub fed_as : (form : Form) (d : DeskValue) (part : List ℕ) (old : Option (List ℕ)) (next next' : DeskValue) (xs xs' : List ℕ) (new
    new' : Option (List ℕ)) (line line' : List ℕ)
    → Fed form d part xs old new line next → xs ≡ xs' → new ≡ new' → line ≡ line' → next ≡ next' → Fed form d part xs' old new' line' next'
fed_as form d part old next next' xs xs' new new' line line' fed a b c e =
    subst (λ n. Fed form d part xs' old new' line' n) e (subst (λ l. Fed form d part xs' old new' l next) c
    (subst (λ o. Fed form d part xs' old o line next) b (subst (λ x. Fed form d part x old new line next) a fed)))

-- ---- reading

-- the bytes of a session begin with those that were read
pub session_more : (bytes : List ℕ) (k : ℕ) → k ≤ 18446744073709551615 → (ys : List ℕ) × (take k bytes ++ ys ≡ session_bytes bytes)
session_more bytes k le =
    let whole : k + (18446744073709551615 - k) ≡ 18446744073709551615 = omega arith in
    (take (18446744073709551615 - k) (drop k bytes), sym (take-add k (18446744073709551615 - k) bytes) ∙ ap (λ n. take n bytes) whole)

-- if nothing is left, all was read
pub bytes_end : (bytes : List ℕ) (k : ℕ) → drop k bytes ≡ [] → k ≤ 18446744073709551615 → take k bytes ≡ session_bytes bytes
bytes_end bytes k none le =
    let size = length-drop k bytes in
    let zero' : length (drop k bytes) ≡ 0 = ap (λ (xs : List ℕ). length xs) none in
    let short : length bytes ≤ k = omega (arith, size, zero') in
    take_all k bytes short ∙ sym (take_all 18446744073709551615 bytes (omega (arith, short, le)))

-- ---- results
