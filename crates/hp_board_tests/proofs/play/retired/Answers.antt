-- All hooks are home.
use Rattle.hp_board_tests.proofs.play.retired.Goals as goal

pub retire-requires : goal.retire-requires
retire-requires g c = c.is_home.ensures.0 c.if-not-is_home.false
