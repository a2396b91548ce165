use Rattle.std.proofs.Common.{◌≡◌, ◌≤◌, ◌+◌, ◌*◌, length, map, All, false}
use Rattle.pb_object.specs.Instructions.{pairs_of}
use Rattle.pb_object.specs.Rows.{bundle_so_far}
use Rattle.pb_object.proofs.Pairs.{gathered, IsApart}
use Rattle.pb_object.proofs.place_reader.pairs.Given as goal

abbrev pub invariant-loop : goal.invariant-loop
invariant-loop l = record {
  read : pairs_of (map (λ w. w.now) l.words) ≡ gathered l.beyond (bundle_so_far l.bundle) (pairs_of (map (λ w. w.now) l.rest));
  left : length l.rest + 2 * l.counter ≡ length l.words;
  room : length (bundle_so_far l.bundle) ≤ l.counter;
  full : l.beyond ≡ false → length (bundle_so_far l.bundle) ≡ l.counter;
  apart : All (IsApart (map (λ w. w.now) l.rest)) (bundle_so_far l.bundle);
}
