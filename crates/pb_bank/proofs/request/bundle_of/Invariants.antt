use Rattle.std.proofs.Common.{◌≡◌, ◌<◌, length, map, All}
use Rattle.pb_bank.specs.Requests.{pairs_after, pairs_of}
use Rattle.pb_bank.specs.Words.{words_of}
use Rattle.pb_bank.proofs.request.bundle_of.Given as goal

abbrev pub invariant-loop-comma : goal.invariant-loop-comma
invariant-loop-comma l = record {
  same : pairs_of (map (λ name. name.items) l.names) (words_of l.text)
      ≡ pairs_after (map (λ name. name.items) l.names) l.bundle (words_of l.rest);
  below : All (λ pair. pair.resource < length l.names) l.bundle;
}

abbrev pub decreases-loop-comma : goal.decreases-loop-comma
decreases-loop-comma l = length l.rest
