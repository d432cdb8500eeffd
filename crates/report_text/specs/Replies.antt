-- The replies of a session that are a line each.
use Rattle.std.specs.Prelude.{ℕ, List, ◌++◌, codes}
use Rattle.std.specs.Fmt.{decimal}
use Rattle.report_text.specs.Texts.{reach_text}
use Rattle.report_text.specs.declared.replies.Reply.{Reply}
use Rattle.report_text.specs.declared.replies.Reply.TheVariants.{Made, Time, NoTime, Refused}

-- the line of a reply
abbrev pub reply_line : Reply → List ℕ
reply_line (Made reach) = codes "ok " ++ reach_text reach
reply_line (Time bracket) = codes "time " ++ decimal bracket.lo ++ codes " " ++ decimal bracket.hi ++ codes "\n"
reply_line NoTime = codes "none\n"
reply_line (Refused code) = codes "error " ++ decimal code ++ codes "\n"
