-- What there is to say of the refusals of commands of the bank.
use Rattle.std.specs.Prelude.{◌++◌, ℕ, List, Some, codes}
use Rattle.pb_explain.specs.Explanation.{Explanation, Text}

-- what the example of B1 reads
abbrev pub b1-input : List ℕ
b1-input =
    codes "resource tape 1\n"
    ++ codes "resource disk 1\n"
    ++ codes "job a 1 tape 1 disk\n"

-- what there is to say of B1
abbrev pub b1-entry : Explanation
b1-entry = record {
  summary = codes "not a command of the bank";
  meaning =
      codes "The line is not a command of `bank`, or is over 4,096 bytes. Words are parted by\n"
      ++ codes "spaces, and the amounts of several resources by commas.";
  example = Some (record {
    command = codes "bank";
    input = Text b1-input;
    answer =
        codes "ready\n"
        ++ codes "ready\n"
        ++ codes "refused B1 not a command: a comma is missing before 1\n"
        ++ codes "ready";
  });
  mend =
      codes "`help` lists the forms of all commands. In the example `, 1 disk` would be right:\n"
      ++ codes "there a comma is missing.";
}

-- what the example of B2 reads
abbrev pub b2-input : List ℕ
b2-input = codes "resource tape two\n"

-- what there is to say of B2
abbrev pub b2-entry : Explanation
b2-entry = record {
  summary = codes "an amount that is out of range";
  meaning =
      codes "An amount is a number in decimal from 0 to 1,000,000, without zeros before it. This\n"
      ++ codes "one is another, or is no number.";
  example = Some (record {
    command = codes "bank";
    input = Text b2-input;
    answer =
        codes "refused B2 an amount is not in 0..=1000000: two\n"
        ++ codes "ready";
  });
  mend =
      codes "Write a number in the place of the amount: first how many, then of which resource.\n"
      ++ codes "Only `resource` has its name first.";
}

-- what the example of B3 reads
abbrev pub b3-input : List ℕ
b3-input = codes "resource tape/disk 1\n"

-- what there is to say of B3
abbrev pub b3-entry : Explanation
b3-entry = record {
  summary = codes "a name that jobs and resources cannot have";
  meaning =
      codes "A name of a job or of a resource has 1 to 32 bytes: letters, digits, `_`, `-` and\n"
      ++ codes "`.`. This one is longer, or has others.";
  example = Some (record {
    command = codes "bank";
    input = Text b3-input;
    answer =
        codes "refused B3 not a name of 1 to 32 bytes\n"
        ++ codes "ready";
  });
  mend = codes "Take another name. Capital letters and small ones are different.";
}

-- what the example of B4 reads
abbrev pub b4-input : List ℕ
b4-input =
    codes "resource tape 1\n"
    ++ codes "job a 1 tpae\n"

-- what there is to say of B4
abbrev pub b4-entry : Explanation
b4-entry = record {
  summary = codes "no resource of this name";
  meaning = codes "The bank has no resource of the name that the command has after an amount.";
  example = Some (record {
    command = codes "bank";
    input = Text b4-input;
    answer =
        codes "ready\n"
        ++ codes "refused B4 no such resource: tpae\n"
        ++ codes "ready";
  });
  mend = codes "`state` lists all resources with their capital. Resources come before the first job.";
}

-- what the example of B5 reads
abbrev pub b5-input : List ℕ
b5-input =
    codes "resource tape 1\n"
    ++ codes "job a 1 tape\n"
    ++ codes "ask b 1 tape\n"

-- what there is to say of B5
abbrev pub b5-entry : Explanation
b5-entry = record {
  summary = codes "no job of this name";
  meaning = codes "The bank has no job of this name: none has joined under it, or it has left.";
  example = Some (record {
    command = codes "bank";
    input = Text b5-input;
    answer =
        codes "ready\n"
        ++ codes "ready\n"
        ++ codes "refused B5 no such job: b\n"
        ++ codes "ready";
  });
  mend = codes "`state` lists all jobs. A job joins by `job`, with its claims.";
}

-- what the example of B6 reads
abbrev pub b6-input : List ℕ
b6-input =
    codes "resource tape 2\n"
    ++ codes "job a 1 tape, 1 tape\n"

-- what there is to say of B6
abbrev pub b6-entry : Explanation
b6-entry = record {
  summary = codes "a resource that is named twice in a command";
  meaning = codes "The command names this resource in two of its amounts.";
  example = Some (record {
    command = codes "bank";
    input = Text b6-input;
    answer =
        codes "ready\n"
        ++ codes "refused B6 a resource is named twice: tape\n"
        ++ codes "ready";
  });
  mend = codes "Write one amount of each resource: `job a 2 tape`.";
}

-- what the example of B7 reads
abbrev pub b7-input : List ℕ
b7-input =
    codes "resource tape 1\n"
    ++ codes "resource tape 2\n"

-- what there is to say of B7
abbrev pub b7-entry : Explanation
b7-entry = record {
  summary = codes "a name that is taken";
  meaning =
      codes "A resource with this name is there already, or a job with it has joined and has not\n"
      ++ codes "left.";
  example = Some (record {
    command = codes "bank";
    input = Text b7-input;
    answer =
        codes "ready\n"
        ++ codes "refused B7 the name is taken: tape\n"
        ++ codes "ready";
  });
  mend =
      codes "Take another name; that of a job is free again when the job has left. A job and a\n"
      ++ codes "resource may have the same name.";
}

-- what the example of B8 reads
abbrev pub b8-input : List ℕ
b8-input =
    codes "resource tape 1\n"
    ++ codes "job a 1 tape\n"
    ++ codes "resource disk 1\n"

-- what there is to say of B8
abbrev pub b8-entry : Explanation
b8-entry = record {
  summary = codes "a resource that comes after a job";
  meaning = codes "Resources come before the first job, also if all jobs have left.";
  example = Some (record {
    command = codes "bank";
    input = Text b8-input;
    answer =
        codes "ready\n"
        ++ codes "ready\n"
        ++ codes "refused B8 a job was there before the resource\n"
        ++ codes "ready";
  });
  mend = codes "Say all resources first, or begin another session.";
}

-- what the example of B9 reads
abbrev pub b9-input : List ℕ
b9-input =
    codes "resource r1 1\n"
    ++ codes "resource r2 1\n"
    ++ codes "resource r3 1\n"
    ++ codes "resource r4 1\n"
    ++ codes "resource r5 1\n"
    ++ codes "resource r6 1\n"
    ++ codes "resource r7 1\n"
    ++ codes "resource r8 1\n"
    ++ codes "resource r9 1\n"
    ++ codes "resource r10 1\n"
    ++ codes "resource r11 1\n"
    ++ codes "resource r12 1\n"
    ++ codes "resource r13 1\n"
    ++ codes "resource r14 1\n"
    ++ codes "resource r15 1\n"
    ++ codes "resource r16 1\n"
    ++ codes "resource r17 1\n"

-- what there is to say of B9
abbrev pub b9-entry : Explanation
b9-entry = record {
  summary = codes "no room for another resource or job";
  meaning =
      codes "A bank has at most 16 resources, and at most 64 jobs at a time. In the example a\n"
      ++ codes "seventeenth resource comes.";
  example = Some (record {
    command = codes "bank";
    input = Text b9-input;
    answer =
        codes "ready\n"
        ++ codes "ready\n"
        ++ codes "ready\n"
        ++ codes "ready\n"
        ++ codes "ready\n"
        ++ codes "ready\n"
        ++ codes "ready\n"
        ++ codes "ready\n"
        ++ codes "ready\n"
        ++ codes "ready\n"
        ++ codes "ready\n"
        ++ codes "ready\n"
        ++ codes "ready\n"
        ++ codes "ready\n"
        ++ codes "ready\n"
        ++ codes "ready\n"
        ++ codes "refused B9 there are as many as there can be: r17\n"
        ++ codes "ready";
  });
  mend = codes "Let a job leave first; or put resources together that are always used together.";
}

-- what the example of B10 reads
abbrev pub b10-input : List ℕ
b10-input =
    codes "resource tape 1\n"
    ++ codes "job a 2 tape\n"

-- what there is to say of B10
abbrev pub b10-entry : Explanation
b10-entry = record {
  summary = codes "a claim of a job over the capital";
  meaning =
      codes "The job would claim more of this resource than there is. It could not get all of it\n"
      ++ codes "at any time, so it could not finish.";
  example = Some (record {
    command = codes "bank";
    input = Text b10-input;
    answer =
        codes "ready\n"
        ++ codes "refused B10 a claim is over the capital: tape\n"
        ++ codes "ready";
  });
  mend =
      codes "Claim at most the capital; `state` has it. The most that a job will hold at a time\n"
      ++ codes "is enough.";
}

-- what the example of B11 reads
abbrev pub b11-input : List ℕ
b11-input =
    codes "resource tape 2\n"
    ++ codes "job a 2 tape\n"
    ++ codes "ask a 1 tape\n"
    ++ codes "give a 2 tape\n"

-- what there is to say of B11
abbrev pub b11-entry : Explanation
b11-entry = record {
  summary = codes "more than the job holds";
  meaning = codes "The job would give back more of this resource than it holds.";
  example = Some (record {
    command = codes "bank";
    input = Text b11-input;
    answer =
        codes "ready\n"
        ++ codes "ready\n"
        ++ codes "granted a 1 tape\n"
        ++ codes "ready\n"
        ++ codes "refused B11 the job does not hold as much: tape\n"
        ++ codes "ready";
  });
  mend = codes "`state` says what each job holds. `leave` gives all back.";
}

-- what the example of B12 reads
abbrev pub b12-input : List ℕ
b12-input =
    codes "resource tape 1\n"
    ++ codes "job a 1 tape\n"
    ++ codes "job b 1 tape\n"
    ++ codes "ask a 1 tape\n"
    ++ codes "want b 1 tape\n"
    ++ codes "ask b 1 tape\n"

-- what there is to say of B12
abbrev pub b12-entry : Explanation
b12-entry = record {
  summary = codes "a wish beside another one of the same job";
  meaning =
      codes "The job has a wish in the queue. It can have one at a time, and asks for nothing\n"
      ++ codes "else until then.";
  example = Some (record {
    command = codes "bank";
    input = Text b12-input;
    answer =
        codes "ready\n"
        ++ codes "ready\n"
        ++ codes "ready\n"
        ++ codes "granted a 1 tape\n"
        ++ codes "ready\n"
        ++ codes "queued\n"
        ++ codes "ready\n"
        ++ codes "refused B12 the job has a wish in the queue: b\n"
        ++ codes "ready";
  });
  mend =
      codes "Wait until the line `granted` tells that the wish was granted, or take it back by\n"
      ++ codes "`drop`.";
}

-- what the example of B13 reads
abbrev pub b13-input : List ℕ
b13-input =
    codes "resource tape 1\n"
    ++ codes "job a 1 tape\n"
    ++ codes "drop a\n"

-- what there is to say of B13
abbrev pub b13-entry : Explanation
b13-entry = record {
  summary = codes "no wish of this job";
  meaning =
      codes "The job has no wish in the queue: it has none yet, or the wish was granted or taken\n"
      ++ codes "back.";
  example = Some (record {
    command = codes "bank";
    input = Text b13-input;
    answer =
        codes "ready\n"
        ++ codes "ready\n"
        ++ codes "refused B13 the job has no wish in the queue: a\n"
        ++ codes "ready";
  });
  mend = codes "Nothing is to be taken back. `state` lists the wishes, in the order of the queue.";
}

-- what the example of B14 reads
abbrev pub b14-input : List ℕ
b14-input =
    codes "resource tape 2\n"
    ++ codes "job a 2 tape\n"
    ++ codes "ask a 2 tape\n"
    ++ codes "claim a 1 tape\n"

-- what there is to say of B14
abbrev pub b14-entry : Explanation
b14-entry = record {
  summary = codes "a claim below what the job holds";
  meaning =
      codes "The job would claim less of this resource than it holds and its wish in the queue\n"
      ++ codes "asks for together.";
  example = Some (record {
    command = codes "bank";
    input = Text b14-input;
    answer =
        codes "ready\n"
        ++ codes "ready\n"
        ++ codes "granted a 2 tape\n"
        ++ codes "ready\n"
        ++ codes "refused B14 the job holds or waits for more: tape\n"
        ++ codes "ready";
  });
  mend =
      codes "Let the job give back first, or take back its wish by `drop`. `state` says what it\n"
      ++ codes "holds.";
}
