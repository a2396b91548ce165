-- What there is to say of the refusals of texts by their bytes, tokens and grammar, and of what is too long.
use Rattle.std.specs.Prelude.{◌++◌, ℕ, List, Some, codes}
use Rattle.pb_explain.specs.Explanation.{Explanation, Text, Repeated}

-- what there is to say of L1
abbrev pub l1-entry : Explanation
l1-entry = record {
  summary = codes "the text is too long";
  meaning =
      codes "A text has at most 65,536 bytes, blanks and comments included. Of a longer one\n"
      ++ codes "nothing else is looked at.";
  example = Some (record {
    command = codes "check";
    input = Repeated (codes "print 1;") 10000;
    answer = codes "refused L1";
  });
  mend =
      codes "Shorten comments and blanks, write a loop in place of statements that are\n"
      ++ codes "repeated, or split the program.";
}

-- what the example of L2 reads
abbrev pub l2-input : List ℕ
l2-input = codes "process p begin print 7 % 2 end\n"

-- what there is to say of L2
abbrev pub l2-entry : Explanation
l2-entry = record {
  summary = codes "a byte that is not allowed";
  meaning =
      codes "A text may not have the byte at this offset (it may have 32 to 126, tab, line feed\n"
      ++ codes "and carriage return), or no token, blank or comment begins at it, as at `%`, `!`, a\n"
      ++ codes "lone `:` or a lone `/`. Offsets are counted in bytes, from 0.";
  example = Some (record {
    command = codes "check";
    input = Text l2-input;
    answer = codes "refused L2 at 24";
  });
  mend =
      codes "Write `mod` for the remainder, `:=` to assign, `=` and `<>` to compare, and `//`\n"
      ++ codes "before a comment. Accented letters and long dashes are not allowed in a comment\n"
      ++ codes "either.";
}

-- what the example of L3 reads
abbrev pub l3-input : List ℕ
l3-input = codes "process p begin print 9223372036854775808 end\n"

-- what there is to say of L3
abbrev pub l3-entry : Explanation
l3-entry = record {
  summary = codes "a number that is too large";
  meaning =
      codes "A number of a text is at most 9223372036854775807, the greatest integer of 64\n"
      ++ codes "bits with a sign. The offset is that of its first digit.";
  example = Some (record {
    command = codes "check";
    input = Text l3-input;
    answer = codes "refused L3 at 22";
  });
  mend = codes "Write a smaller number. The least integer is -9223372036854775807 - 1.";
}

-- what the example of L4 reads
abbrev pub l4-input : List ℕ
l4-input =
    codes "process p\n"
    ++ codes "begin\n"
    ++ codes "  integer the_number_of_customers_that_are_served;\n"
    ++ codes "  skip\n"
    ++ codes "end\n"

-- what there is to say of L4
abbrev pub l4-entry : Explanation
l4-entry = record {
  summary = codes "a name that is too long";
  meaning = codes "A name has at most 32 bytes. The offset is that of its first byte.";
  example = Some (record {
    command = codes "check";
    input = Text l4-input;
    answer = codes "refused L4 at 26";
  });
  mend = codes "Shorten the name, at each of its uses too.";
}

-- what the example of P1 reads
abbrev pub p1-input : List ℕ
p1-input = codes "process p begin print 1; end\n"

-- what there is to say of P1
abbrev pub p1-entry : Explanation
p1-entry = record {
  summary = codes "the text is not a program";
  meaning =
      codes "The tokens do not follow the grammar. The offset is the start of the first token\n"
      ++ codes "that cannot be there after those before it; if the text only ends too early,\n"
      ++ codes "it is the end of the last token.";
  example = Some (record {
    command = codes "check";
    input = Text p1-input;
    answer = codes "refused P1 at 25";
  });
  mend =
      codes "Look at this offset, and just before it. A semicolon comes between statements, and\n"
      ++ codes "not after the last one, as in the example; `fi`, `od`, `parend` or `end` may be\n"
      ++ codes "missing, or `=` may be written for `:=`. Integers are declared right after the\n"
      ++ codes "`begin` of their process, and resources before the first process. The grammar is\n"
      ++ codes "in docs/LANGUAGE.md.";
}

-- what the example of P2 reads
abbrev pub p2-input : List ℕ
p2-input =
    codes "process p begin print\n"
    ++ codes "------------------------------------------------------------------\n"
    ++ codes "------------------------------------------------------------------\n"
    ++ codes "------------------------------------------------------------------\n"
    ++ codes "------------------------------------------------------------------\n"
    ++ codes "1 end\n"

-- what there is to say of P2
abbrev pub p2-entry : Explanation
p2-entry = record {
  summary = codes "nested too deep";
  meaning =
      codes "More than 256 brackets are open at once, where `(`, `begin`, `if`, `while`, `hold`\n"
      ++ codes "and `parbegin` each open one; or more than 256 signs, `-` or `not`, follow one\n"
      ++ codes "another; or the tree of the program is more than 200 high. A number has height 1,\n"
      ++ codes "and an operator or a statement is one higher than its highest part.";
  example = Some (record {
    command = codes "check";
    input = Text p2-input;
    answer = codes "refused P2";
  });
  mend =
      codes "Assign a part to an integer, and use the integer in its place. A sum of more than\n"
      ++ codes "200 terms is too high as well: add it up in several statements.";
}

-- what there is to say of P3
abbrev pub p3-entry : Explanation
p3-entry = record {
  summary = codes "too many nodes";
  meaning =
      codes "A program has at most 16,384 nodes, which are its expressions, statements and\n"
      ++ codes "processes.";
  example = Some (record {
    command = codes "check";
    input = Repeated (codes "print 1+1+1+1+1+1+1+1+1+1;") 900;
    answer = codes "refused P3";
  });
  mend = codes "Write a loop in place of statements that are repeated, or split the program.";
}

-- what there is to say of `input`
abbrev pub input-entry : Explanation
input-entry = record {
  summary = codes "the input is too long";
  meaning =
      codes "An input has at most 4,194,304 bytes. With `debug --live` this is so of the text\n"
      ++ codes "and of the pick lines, each by itself.";
  example = Some (record {
    command = codes "check";
    input = Repeated (codes "print 1;") 500000;
    answer = codes "refused input";
  });
  mend =
      codes "Check the texts of a long input in several calls. Of a long run record fewer\n"
      ++ codes "steps, by `--steps`.";
}

-- what the example of `output` reads
abbrev pub output-input : List ℕ
output-input =
    codes "process the_first_of_two_processes begin while 1 do skip od end\n"
    ++ codes "process the_second_of_two_processes begin while 1 do skip od end\n"

-- what there is to say of `output`
abbrev pub output-entry : Explanation
output-entry = record {
  summary = codes "what `record` would write is too long";
  meaning =
      codes "A text with the pick lines of its run would be over 4,194,304 bytes, which\n"
      ++ codes "`replay` could not read.";
  example = Some (record {
    command = codes "record --seed 1";
    input = Text output-input;
    answer = codes "refused output";
  });
  mend =
      codes "Record fewer steps, by `--steps`. Shorter names of processes help too, since each\n"
      ++ codes "pick line has one.";
}
