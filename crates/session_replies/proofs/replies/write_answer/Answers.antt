use Rattle.std.proofs.Common.{arith, subst}
use Rattle.report_text.specs.Replies.{reply_line}
use Rattle.report_text.specs.declared.replies.Reply.{Reply}
use Rattle.session_replies.specs.Answered.{IsWritten}
use Rattle.session_replies.specs.declared.answers.Answer.TheVariants as answer
use Rattle.session_replies.proofs.replies.write_answer.Goals as goal

pub returns-in-Made : goal.returns-in-Made
returns-in-Made g c = rw c.in-Made.is (record { written = c.reply.ensures _; cost = omega arith })

pub returns-in-Time : goal.returns-in-Time
returns-in-Time g c =
    let given = answer.Time c.in-Time.arrival in
    let old = g.K.Sink.told c.args.out.now in
    let new = g.K.Sink.told c.reply-in-Time.new.out in
    let written = subst (λ (r : Reply). IsWritten given old new (reply_line r) c.reply-in-Time.result) c.time_reply.ensures (c.reply-in-Time.ensures given) in
    rw c.in-Time.is (record { written = written; cost = omega arith })

pub returns-in-Refused : goal.returns-in-Refused
returns-in-Refused g c = rw c.in-Refused.is (record { written = c.reply-in-Refused.ensures _; cost = omega arith })
