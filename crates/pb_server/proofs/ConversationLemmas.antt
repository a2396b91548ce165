-- A conversation, message by message.
use Rattle.std.proofs.Common.{◌≡◌, ◌⊎◌, ◌<◌, ℕ, ◌+◌, List, [], ◌∷◌, ◌++◌, length, true, false, Option, Some, None, IfSome, refl, sym, ap, ◌∙◌}
use Rattle.std.proofs.Common.{subst, inl, inr, arith, append_assoc, length-append}
use Rattle.std.proofs.lemmas.List.Concat.{flat_map-append}
use Rattle.serde_json.specs.Data.{Data}
use Rattle.pb_base.specs.Device.{appended, AddsPrefix}
use Rattle.pb_base.proofs.DeviceLemmas.{appended-appended}
use Rattle.pb_conversations.proofs.ConversationLemmas.{front_of, read_to}
use Rattle.pb_conversations.proofs.WrittenTexts.{known, none_appended, prefix_behind, texts_more}
use Rattle.pb_conversations.specs.Conversations.{SaysBefore, WritesReply, message_text, none_read, one_read, texts}
use Rattle.pb_conversations.specs.declared.conversation.Stop.{Stop}
use Rattle.pb_conversations.specs.declared.conversation.Stop.TheVariants as stop
use Rattle.pb_frames.specs.Frames.{IsFrame, IsFrameFault, IsPartOfFrame, IsRead}
use Rattle.pb_frames.specs.declared.fault.FrameFault.{FrameFault}
use Rattle.pb_frames.specs.declared.fault.FrameFault.TheVariants as frame
use Rattle.pb_server.specs.Answers.{AnswersContent, Diagnosing, Finding, Serving}
use Rattle.pb_server.specs.Conversations.{AnswersRead, Talks, TalksOut, TalksSome, WritesBroken, broken_data, none_heard, one_heard}

module _ (Diagnoses : Diagnosing) (Finds : Finding) (s : Serving) where
  -- the first messages are answered, and `heard` is how many they are
  pub record SaysSoFar (bytes : List ℕ) (heard : ℕ) (left old new : Option (List ℕ)) (here : Serving) : Type 0 where
    pub rest : List ℕ
    pub messages : List Data
    pub talks : Talks Diagnoses Finds s bytes rest messages here
    pub coming : left ≡ Some rest
    pub counted : heard ≡ length talks.contents
    pub written : new ≡ appended old (texts messages)

  pub so_far_nothing : (bytes : List ℕ) (left old : Option (List ℕ)) → left ≡ Some bytes → SaysSoFar bytes 0 left old old s
  so_far_nothing bytes left old is = record {
    rest = bytes;
    messages = [];
    talks = record { contents = []; frames = none_read; conversation = none_heard };
    coming = is;
    counted = refl;
    written = none_appended old;
  }

  module _ (bytes : List ℕ) (heard : ℕ) (left old mid : Option (List ℕ)) (here : Serving) (far : SaysSoFar bytes heard left old mid here) where
    -- all is answered
    pub so_far_all : ((here.over ≡ true) ⊎ (4294967295 < heard)) → TalksOut Diagnoses Finds s bytes old mid here
    so_far_all whole = record {
      rest = far.rest;
      messages = far.messages;
      talks = far.talks;
      whole = inr (subst (λ n. (here.over ≡ true) ⊎ (4294967295 < n)) far.counted whole);
      written = far.written;
    }

    -- the input is at its end
    pub so_far_end : (left' : Option (List ℕ)) → IfSome left (λ bs. IsRead bs None left') → TalksOut Diagnoses Finds s bytes old mid here
    so_far_end left' end = record {
      rest = far.rest;
      messages = far.messages;
      talks = far.talks;
      whole = inl (known left far.rest (λ bs. bs ≡ []) far.coming end);
      written = far.written;
    }

    -- out of memory
    pub so_far_memory : TalksSome Diagnoses Finds s bytes old mid stop.Memory
    so_far_memory = record {
      rest = far.rest;
      messages = far.messages;
      after = here;
      talks = far.talks;
      written = far.written;
    }

    -- a read failed, and nothing more is written
    pub so_far_read : (left' new : Option (List ℕ)) → here.over ≡ false → IfSome left (λ bs. IsPartOfFrame bs left') → new ≡ mid
        → SaysBefore (AnswersRead Diagnoses Finds s) bytes left' old new
    so_far_read left' new on part kept =
        let (read, later, cut, to, early) = known left far.rest (λ bs. IsPartOfFrame bs left') far.coming part in
        let f = front_of bytes far.talks.contents far.rest far.talks.frames in (
          f.front ++ read,
          texts far.messages,
          read_to bytes f.front far.rest read later left' f.cut cut to,
          record {
            part = read;
            messages = far.messages;
            after = here;
            talks = record { contents = far.talks.contents; frames = f.frames read; conversation = far.talks.conversation };
            goes_on = on;
            unfinished = early;
            said = refl;
          },
          kept ∙ far.written,
        )

    -- no further message was read
    pub so_far_unread : (fault : FrameFault) (why : Stop) (new : Option (List ℕ)) → IfSome left (IsFrameFault fault)
        → WritesBroken why fault mid new → TalksSome Diagnoses Finds s bytes old new why
    so_far_unread fault stop.Broken new is (of, wrote) = record {
      rest = far.rest;
      messages = far.messages;
      after = here;
      talks = far.talks;
      written = (
        fault,
        of,
        known left far.rest (IsFrameFault fault) far.coming is,
        wrote
            ∙ (ap (λ o. appended o (texts (broken_data fault ∷ []))) far.written
            ∙ appended-appended old (texts far.messages) (texts (broken_data fault ∷ []))),
      );
    }
    so_far_unread fault stop.Memory new is wrote = record {
      rest = far.rest;
      messages = far.messages;
      after = here;
      talks = far.talks;
      written = wrote ∙ far.written;
    }
    so_far_unread fault stop.Device new is wrote = record {
      rest = far.rest;
      messages = far.messages;
      after = here;
      talks = far.talks;
      written = (fault, prefix_behind old mid new (texts far.messages) (texts (broken_data fault ∷ [])) far.written wrote);
    }

    module _ (content : List ℕ) (left' new : Option (List ℕ)) (told : List Data) (after : Serving)
        (read : IfSome left (λ bs. IsRead bs (Some content) left')) (on : here.over ≡ false)
        (answer : AnswersContent Diagnoses Finds here content told after) where
      behind : (rest : List ℕ) × IsFrame far.rest content rest × (left' ≡ Some rest)
      behind = known left far.rest (λ bs. IsRead bs (Some content) left') far.coming read

      more_talks : Talks Diagnoses Finds s bytes behind.0 (far.messages ++ told) after
      more_talks = record {
        contents = far.talks.contents ++ content ∷ [];
        frames = one_read far.talks.contents content far.rest behind.0 far.talks.frames behind.1;
        conversation = one_heard far.talks.contents far.messages here content told after far.talks.conversation on answer;
      }

      -- one more content is answered
      pub so_far_more : new ≡ appended mid (texts told) → SaysSoFar bytes (heard + 1) left' old new after
      unfolding more_talks
      so_far_more wrote = record {
        rest = behind.0;
        messages = far.messages ++ told;
        talks = more_talks;
        coming = behind.2;
        counted = omega (arith, length-append far.talks.contents (content ∷ []), far.counted);
        written = texts_more far.messages told old mid new far.written wrote;
      }

      -- or nothing of the answer is written, or a prefix
      pub so_far_broken : (why : Stop) → WritesReply why told mid new → TalksSome Diagnoses Finds s bytes old new why
      so_far_broken stop.Broken wrote = absurd wrote
      so_far_broken stop.Memory wrote = record {
        rest = far.rest;
        messages = far.messages;
        after = here;
        talks = far.talks;
        written = wrote ∙ far.written;
      }
      so_far_broken stop.Device wrote = record {
        rest = behind.0;
        messages = far.messages ++ told;
        after = after;
        talks = more_talks;
        written = (
          frame.Early,
          (let whole =
              subst (λ (t : List ℕ). AddsPrefix old new t) (sym (flat_map-append message_text far.messages told))
              (prefix_behind old mid new (texts far.messages) (texts told) far.written wrote) in (
                whole.0,
                whole.1 ++ texts (broken_data frame.Early ∷ []),
                ap (λ (t : List ℕ). t ++ texts (broken_data frame.Early ∷ [])) whole.2
                    ∙ append_assoc whole.0 whole.1 (texts (broken_data frame.Early ∷ [])),
                whole.3,
              )),
        );
      }
