use Rattle.std.proofs.Common.{refl}
use Rattle.pb_names.specs.Resolves.{parbegin}
use Rattle.pb_names.proofs.NumberedLists.{numbered_parbegin, arms_in_range}
use Rattle.pb_names.proofs.Views.{numbered-Parbegin}
use Rattle.pb_resolver.proofs.resolver.add_parbegin.Goals as goal

pub returns : goal.returns
returns g c is rs a m some few inside after numbered = record {
  made = _;
  pushed = c.in_ok-push.ensures.items;
  resolves = rw numbered-Parbegin (parbegin _ _ _ _ (arms_in_range is rs a _ inside some few) inside);
  numbered = rw numbered-Parbegin (numbered_parbegin is rs a _ c.args.first c.args.first m refl after inside numbered);
}
