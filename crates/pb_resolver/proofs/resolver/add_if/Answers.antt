use Rattle.pb_names.specs.Resolves.{if_else}
use Rattle.pb_names.specs.Search.{names_in}
use Rattle.pb_names.proofs.NumberedLists.{numbered_if}
use Rattle.pb_names.proofs.Views.{numbered-If}
use Rattle.pb_resolver.proofs.resolver.add_if.Goals as goal

pub returns : goal.returns
returns g c rs n m a b on_true on_false first after second = record {
  made = _;
  pushed = c.in_ok-push.ensures.items;
  resolves = rw numbered-If (if_else _ _ _ _ _ _ _ c.in_ok-test.ensures on_true on_false);
  numbered = rw numbered-If (numbered_if (names_in c.args.integers.now) rs a _ _ n m after on_true first second);
}
