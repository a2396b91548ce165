use Rattle.std.proofs.Common.{◌≡◌, true, false, refl}
use Rattle.pb_code.specs.View.{process_view}
use Rattle.pb_verifier.proofs.ForkTables.{forks_from, forks_there, named_of, paired_of}
use Rattle.pb_verifier.proofs.forks.has_forks.Goals as goal

pub returns-then-not-all_fork_later : goal.returns-then-not-all_fork_later
returns-then-not-all_fork_later c = (
  λ t. let no : false ≡ true = t in cc,
  λ h. c.if-not-all_fork_later.ensures.1 (λ arm _ place first count. h.later arm place first count),
)

pub returns-then-not-are_paired : goal.returns-then-not-are_paired
returns-then-not-are_paired c = (
  λ t. let no : false ≡ true = t in cc,
  λ h. c.if-not-are_paired.ensures.1 (paired_of (process_view c.args.code.now) h),
)

pub are_named-requires-clause-there : goal.are_named-requires-clause-there
are_named-requires-clause-there c =
    forks_there (process_view c.args.code.now) c.requires.arms c.requires.some (c.if-not-all_fork_later.ensures.0 refl)

pub returns : goal.returns
returns c = (
  λ t. forks_from (process_view c.args.code.now) (c.if-not-all_fork_later.ensures.0 refl)
      (c.if-not-are_paired.ensures.0 refl) (c.are_named.ensures.0 t),
  λ h. c.are_named.ensures.1 (named_of (process_view c.args.code.now) h),
)
