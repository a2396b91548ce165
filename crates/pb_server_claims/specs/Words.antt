-- What each reserved word means.
use Rattle.std.specs.Prelude.{ℕ, List, Option, Some, None, codes}
use Rattle.pb_lexer.specs.declared.token.Mark.{Mark}
use Rattle.pb_lexer.specs.declared.token.Mark.TheVariants as mark

-- what a reserved word means; nothing is said of the other symbols
abbrev pub meaning : Mark → Option (List ℕ)
meaning mark.And = Some (codes "1 if both sides are not 0, otherwise 0. Both sides are evaluated.")
meaning mark.Begin = Some (codes "Begins the body of a process, or a list of statements, up to `end`.")
meaning mark.Div = Some (codes "The quotient, cut toward zero: -7 div 2 is -3. By zero the process ends with the fault `divide`.")
meaning mark.Do = Some (codes "Begins the statements of a `while` or a `hold`, up to `od`.")
meaning mark.Else = Some (codes "Begins the statements that run if the test is 0, up to `fi`.")
meaning mark.End = Some (codes "Ends what `begin` began.")
meaning mark.Fi = Some (codes "Ends an `if`.")
meaning mark.Hold = Some (codes "Has these amounts lent while its statements run. It is entered when the banker lends them.")
meaning mark.If = Some (codes "Runs the statements after `then` if the test is not 0, otherwise those after `else`.")
meaning mark.Integer = Some (codes "Declares the integers of the process, which are 0 at first.")
meaning mark.Mod = Some (codes "The remainder, with the sign of the left side: -7 mod 2 is -1. By zero the process ends with the fault `divide`.")
meaning mark.Not = Some (codes "1 if what follows is 0, otherwise 0.")
meaning mark.Od = Some (codes "Ends a `while`, or a `hold`, which gives back what it was lent.")
meaning mark.Of = Some (codes "Stands between an amount and its resource.")
meaning mark.Or = Some (codes "1 if one side is not 0, or both are not, otherwise 0. Both sides are evaluated.")
meaning mark.Parbegin = Some (codes "Runs the statements up to `parend` side by side, each as an arm, which share the integers of the process.")
meaning mark.Parend = Some (codes "Ends a `parbegin`: what follows runs when all its arms have ended.")
meaning mark.Print = Some (codes "Prints the value of the expression.")
meaning mark.Process = Some (codes "Declares a process, which runs beside the others.")
meaning mark.Resource = Some (codes "Declares a resource, and how much of it there is in all.")
meaning mark.Skip = Some (codes "Does nothing.")
meaning mark.Then = Some (codes "Begins the statements that run if the test is not 0.")
meaning mark.While = Some (codes "Runs the statements up to `od` as long as the test is not 0. The test comes before each time.")
meaning _ = None
