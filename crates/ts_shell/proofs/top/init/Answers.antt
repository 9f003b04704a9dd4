use Rattle.std.proofs.Common.{inl, inr, refl, arith}
use Rattle.ts_shell.proofs.TopLemmas.{untouched_now}
use Rattle.ts_shell.proofs.top.init.Goals as goal

pub returns-then-len-ne0 : goal.returns-then-len-ne0
returns-then-len-ne0 g c = record {
  made = record {
    done = λ zero. absurd (omega arith);
    moments = λ t more. absurd (omega arith);
    there = λ ten. omega (arith, c.len.ensures);
    refused = λ some. refl;
    kept = λ ten. untouched_now (g.S.Volume.device c.args.site.now);
    disk = λ five. absurd (omega arith);
    no_fault = λ no. refl;
    say_faults = refl;
    complete = λ empty no. absurd (omega (arith, c.len.ensures));
    said = refl;
    statuses = inr (inr refl);
  };
}

pub returns-in-Ok : goal.returns-in-Ok
returns-in-Ok g c = record {
  made = record {
    done = λ zero. (c.in-Ok.ensures.size, c.in-Ok.ensures.durable, c.in-Ok.ensures.means);
    moments = c.make.ensures.moments;
    there = λ ten. absurd (omega arith);
    refused = λ some. absurd (omega (arith, c.len.ensures));
    kept = λ ten. absurd (omega arith);
    disk = λ five. absurd (omega arith);
    no_fault = λ no. c.in-Ok.ensures.no_fault;
    say_faults = c.make.ensures.say_faults;
    complete = λ empty no. refl;
    said = c.make.ensures.said;
    statuses = inl refl;
  };
}

pub returns-in-Err : goal.returns-in-Err
returns-in-Err g c = record {
  made = record {
    done = λ zero. absurd (omega arith);
    moments = c.make.ensures.moments;
    there = λ ten. absurd (omega arith);
    refused = λ some. absurd (omega (arith, c.len.ensures));
    kept = λ ten. absurd (omega arith);
    disk = λ five. c.in-Err.ensures.cause refl;
    no_fault = λ no. absurd (no refl);
    say_faults = c.make.ensures.say_faults;
    complete = λ empty no. absurd (no (c.in-Err.ensures.cause refl));
    said = c.make.ensures.said;
    statuses = inr (inl refl);
  };
}
