-- A conversation, message by message.
use Rattle.std.proofs.Common.{◌≡◌, ◌≢◌, refl, ◌⊎◌, ◌<◌, ℕ, ◌+◌, List, [], ◌∷◌, ◌++◌, length, Bool, true, false, Option, Some, None, IfSome, sym, ap, ◌∙◌}
use Rattle.std.proofs.Common.{subst, inl, inr, arith, append_assoc, length-append}
use Rattle.std.proofs.lemmas.List.Concat.{flat_map-append}
use Rattle.serde_json.specs.Data.{Data}
use Rattle.pb_base.specs.Device.{appended, AddsPrefix}
use Rattle.pb_base.proofs.DeviceLemmas.{appended-appended}
use Rattle.pb_adapter_requests.specs.Requests.{Asked}
use Rattle.pb_frames.proofs.HeadLemmas.{head_front}
use Rattle.pb_frames.specs.Frames.{IsFrame, IsFrameFault, IsPartOfFrame, IsRead}
use Rattle.pb_frames.specs.Heads.{Says, head_of}
use Rattle.pb_frames.specs.declared.fault.FrameFault.{FrameFault}
use Rattle.pb_frames.specs.declared.fault.FrameFault.TheVariants as frame
use Rattle.pb_conversations.specs.declared.conversation.Stop.{Stop}
use Rattle.pb_conversations.specs.declared.conversation.Stop.TheVariants as stop
use Rattle.pb_conversations.specs.Conversations.{message_text, texts, broken_data, AnswersContent, AnswersRead, AreFrames, IsReadTo, SaysBefore, none_read, one_read}
use Rattle.pb_conversations.specs.Conversations.{none_answered, one_answered, Talks, TalksOut, TalksSome}
use Rattle.pb_conversations.specs.Conversations.{WritesBroken, WritesReply}
use Rattle.pb_conversations.proofs.WrittenTexts.{known, none_appended, prefix_behind, texts_more}

-- ---- the bytes of messages

-- messages that were read are read so, whatever comes after their bytes
pub record Front (bytes : List ℕ) (contents : List (List ℕ)) (rest : List ℕ) : Type 0 where
  pub front : List ℕ
  pub cut : bytes ≡ front ++ rest
  pub frames : (more : List ℕ) → AreFrames (front ++ more) contents more

-- three texts in a row
three : (xs ys zs ws : List ℕ) → xs ++ (ys ++ (zs ++ ws)) ≡ (xs ++ (ys ++ zs)) ++ ws
three xs ys zs ws =
    ap (λ (t : List ℕ). xs ++ t) (sym (append_assoc ys zs ws)) ∙ sym (append_assoc xs (ys ++ zs) ws)

module _ (bytes : List ℕ) (contents : List (List ℕ)) (content mid rest : List ℕ) (before : Front bytes contents mid)
    (is : IsFrame mid content rest) where
  head : (front : List ℕ) × (mid ≡ front ++ (content ++ rest)) × ((more : List ℕ) → head_of (front ++ more) ≡ Says (length content) more)
  head = head_front mid (length content) (content ++ rest) is.head

  frames_more : (more : List ℕ) → AreFrames ((before.front ++ (head.0 ++ content)) ++ more) (contents ++ content ∷ []) more
  frames_more more =
      subst (λ (bs : List ℕ). AreFrames bs (contents ++ content ∷ []) more) (three before.front head.0 content more)
      (one_read contents content (head.0 ++ (content ++ more)) more (before.frames (head.0 ++ (content ++ more)))
      (record { head = head.2 (content ++ more); short = is.short }))

  front_more : Front bytes (contents ++ content ∷ []) rest
  front_more = record {
    front = before.front ++ (head.0 ++ content);
    cut = before.cut ∙ (ap (λ (t : List ℕ). before.front ++ t) head.1 ∙ three before.front head.0 content rest);
    frames = frames_more;
  }

pub front_of : (bytes : List ℕ) (contents : List (List ℕ)) (rest : List ℕ) → AreFrames bytes contents rest → Front bytes contents rest
front_of bytes _ _ none_read = record { front = []; cut = refl; frames = λ more. none_read }
front_of bytes _ _ (one_read contents content mid rest before is) =
    front_more bytes contents content mid rest (front_of bytes contents mid before) is

-- of a part of what was to come, the bytes that were read
pub read_to : (bytes front rest read later : List ℕ) (left : Option (List ℕ)) → bytes ≡ front ++ rest → rest ≡ read ++ later
    → left ≡ Some later → IsReadTo bytes (front ++ read) left
read_to bytes front rest read later left of cut to =
    (later, of ∙ (ap (λ (t : List ℕ). front ++ t) cut ∙ sym (append_assoc front read later)), to)

-- a fault is that of a device, or another one
pub device_or : (fault : FrameFault) → (fault ≡ frame.Device) ⊎ (fault ≢ frame.Device)
device_or frame.Early = inr (λ is. cc)
device_or frame.Malformed = inr (λ is. cc)
device_or frame.TooLong = inr (λ is. cc)
device_or frame.Memory = inr (λ is. cc)
device_or frame.Device = inl refl

-- ---- message by message

module _ {S : Type 0} (Answers : S → ℕ → Asked → List Data → S → Type 0) (over : S → Bool) (s : S) (first : ℕ) where
  -- the first messages are answered, and the next that is written is numbered so
  pub record SaysSoFar (bytes : List ℕ) (seq : ℕ) (left old new : Option (List ℕ)) (here : S) : Type 0 where
    pub rest : List ℕ
    pub messages : List Data
    pub talks : Talks Answers over s first bytes rest messages here
    pub coming : left ≡ Some rest
    pub numbered : seq ≡ first + length messages
    pub written : new ≡ appended old (texts messages)

  pub so_far_nothing : (bytes : List ℕ) (left old : Option (List ℕ)) → left ≡ Some bytes → SaysSoFar bytes first left old old s
  so_far_nothing bytes left old is = record {
    rest = bytes;
    messages = [];
    talks = record { contents = []; frames = none_read; conversation = none_answered };
    coming = is;
    numbered = omega arith;
    written = none_appended old;
  }

  module _ (bytes : List ℕ) (seq : ℕ) (left old mid : Option (List ℕ)) (here : S) (far : SaysSoFar bytes seq left old mid here) where
    -- all is answered
    pub so_far_all : ((over here ≡ true) ⊎ (4294967295 < seq)) → TalksOut Answers over s first bytes left old mid here seq
    so_far_all whole = record {
      rest = far.rest;
      messages = far.messages;
      talks = far.talks;
      whole = inr (far.coming, whole);
      numbered = far.numbered;
      written = far.written;
    }

    -- the input is at its end
    pub so_far_end : (left' : Option (List ℕ)) → IfSome left (λ bs. IsRead bs None left') → over here ≡ false
        → TalksOut Answers over s first bytes left' old mid here seq
    so_far_end left' end on = record {
      rest = far.rest;
      messages = far.messages;
      talks = far.talks;
      whole = inl (known left far.rest (λ bs. bs ≡ []) far.coming end, on);
      numbered = far.numbered;
      written = far.written;
    }

    -- out of memory
    pub so_far_memory : TalksSome Answers over s first bytes old mid stop.Memory
    so_far_memory = record {
      rest = far.rest;
      messages = far.messages;
      after = here;
      talks = far.talks;
      written = far.written;
    }

    -- a read failed, and nothing more is written
    pub so_far_read : (left' new : Option (List ℕ)) → over here ≡ false → IfSome left (λ bs. IsPartOfFrame bs left') → new ≡ mid
        → SaysBefore (AnswersRead Answers over s first) bytes left' old new
    so_far_read left' new on part kept =
        let (read, later, cut, to, early) = known left far.rest (λ bs. IsPartOfFrame bs left') far.coming part in
        let f = front_of bytes far.talks.contents far.rest far.talks.frames in (
          f.front ++ read,
          texts far.messages,
          read_to bytes f.front far.rest read later left' f.cut cut to,
          record {
            part = read;
            messages = far.messages;
            after = here;
            talks = record { contents = far.talks.contents; frames = f.frames read; conversation = far.talks.conversation };
            goes_on = on;
            unfinished = early;
            said = refl;
          },
          kept ∙ far.written,
        )

    -- no further message was read
    pub so_far_unread : (fault : FrameFault) (why : Stop) (new : Option (List ℕ)) → IfSome left (IsFrameFault fault)
        → WritesBroken why fault seq mid new → TalksSome Answers over s first bytes old new why
    so_far_unread fault stop.Broken new is (of, wrote) = record {
      rest = far.rest;
      messages = far.messages;
      after = here;
      talks = far.talks;
      written = record {
        fault = fault;
        of_bytes = of;
        is = known left far.rest (IsFrameFault fault) far.coming is;
        written =
            wrote
            ∙ (ap (λ o. appended o (message_text (broken_data seq fault))) far.written
            ∙ (appended-appended old (texts far.messages) (message_text (broken_data seq fault))
            ∙ ap (λ (n : ℕ). appended old (texts far.messages ++ message_text (broken_data n fault))) far.numbered));
      };
    }
    so_far_unread fault stop.Memory new is wrote = record {
      rest = far.rest;
      messages = far.messages;
      after = here;
      talks = far.talks;
      written = wrote ∙ far.written;
    }
    so_far_unread fault stop.Device new is wrote = record {
      rest = far.rest;
      messages = far.messages;
      after = here;
      talks = far.talks;
      written = (
        fault,
        subst (λ (n : ℕ). AddsPrefix old new (texts far.messages ++ message_text (broken_data n fault))) far.numbered
            (prefix_behind old mid new (texts far.messages) (message_text (broken_data seq fault)) far.written wrote),
      );
    }

    module _ (content : List ℕ) (left' new : Option (List ℕ)) (told : List Data) (after : S)
        (read : IfSome left (λ bs. IsRead bs (Some content) left')) (on : over here ≡ false)
        (answer : AnswersContent Answers here seq content told after) where
      behind : (rest : List ℕ) × IsFrame far.rest content rest × (left' ≡ Some rest)
      behind = known left far.rest (λ bs. IsRead bs (Some content) left') far.coming read

      more_talks : Talks Answers over s first bytes behind.0 (far.messages ++ told) after
      more_talks = record {
        contents = far.talks.contents ++ content ∷ [];
        frames = one_read far.talks.contents content far.rest behind.0 far.talks.frames behind.1;
        conversation = one_answered far.talks.contents far.messages here content told after far.talks.conversation on
            (subst (λ n. AnswersContent Answers here n content told after) far.numbered answer);
      }

      -- one more content is answered
      pub so_far_more : new ≡ appended mid (texts told) → SaysSoFar bytes (seq + length told) left' old new after
      so_far_more wrote = record {
        rest = behind.0;
        messages = far.messages ++ told;
        talks = more_talks;
        coming = behind.2;
        numbered = omega (arith, length-append far.messages told, far.numbered);
        written = texts_more far.messages told old mid new far.written wrote;
      }

      -- or nothing of the answer is written, or a prefix
      pub so_far_broken : (why : Stop) → WritesReply why told mid new → TalksSome Answers over s first bytes old new why
      so_far_broken stop.Broken wrote = absurd wrote
      so_far_broken stop.Memory wrote = record {
        rest = far.rest;
        messages = far.messages;
        after = here;
        talks = far.talks;
        written = wrote ∙ far.written;
      }
      so_far_broken stop.Device wrote = record {
        rest = behind.0;
        messages = far.messages ++ told;
        after = after;
        talks = more_talks;
        written = (
          frame.Early,
          (let whole =
              subst (λ (t : List ℕ). AddsPrefix old new t) (sym (flat_map-append message_text far.messages told))
              (prefix_behind old mid new (texts far.messages) (texts told) far.written wrote) in (
                whole.0,
                whole.1 ++ message_text (broken_data (first + length (far.messages ++ told)) frame.Early),
                ap (λ (t : List ℕ). t ++ message_text (broken_data (first + length (far.messages ++ told)) frame.Early)) whole.2
                    ∙ append_assoc whole.0 whole.1 (message_text (broken_data (first + length (far.messages ++ told)) frame.Early)),
                whole.3,
              )),
        );
      }
