use Rattle.gnb_base.proofs.NextLemmas.{ended_again, too_long_again, failed_again}
use Rattle.gnb_base.proofs.lines.LineReader.next.Goals as goal

pub returns-in-Ended : goal.returns-in-Ended
returns-in-Ended g c = ended_again c.self.inside _ _ c.self.view_is c.self.invariant c.in-Ended.is

pub returns-in-TooLong : goal.returns-in-TooLong
returns-in-TooLong g c = too_long_again c.self.inside _ _ c.self.view_is c.self.invariant c.in-TooLong.is

pub returns-in-Failed : goal.returns-in-Failed
returns-in-Failed g c = failed_again c.self.inside _ _ c.self.view_is c.self.invariant c.in-Failed.is
