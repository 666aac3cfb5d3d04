-- `events::masks_of` meets its contract. Each arm returns its row of the table, and the last one the masks of a row in which no byte is used.
use Rattle.events.proofs.MaskTable.{arm, last_arm}
use Rattle.events.proofs.masks_of.Goals as goal

pub returns-in-1 : goal.returns-in-1
returns-in-1 c = arm 1 _ c.in-1.is

pub returns-in-2 : goal.returns-in-2
returns-in-2 c = arm 2 _ c.in-2.is

pub returns-in-3 : goal.returns-in-3
returns-in-3 c = arm 3 _ c.in-3.is

pub returns-in-4 : goal.returns-in-4
returns-in-4 c = arm 4 _ c.in-4.is

pub returns-in-5 : goal.returns-in-5
returns-in-5 c = arm 5 _ c.in-5.is

pub returns-in-6 : goal.returns-in-6
returns-in-6 c = arm 6 _ c.in-6.is

pub returns-in-7 : goal.returns-in-7
returns-in-7 c = arm 7 _ c.in-7.is

pub returns-in-8 : goal.returns-in-8
returns-in-8 c = arm 8 _ c.in-8.is

pub returns-in-9 : goal.returns-in-9
returns-in-9 c = arm 9 _ c.in-9.is

pub returns-in-10 : goal.returns-in-10
returns-in-10 c = arm 10 _ c.in-10.is

pub returns-in_default : goal.returns-in_default
returns-in_default c = last_arm _ c.in_default.in_default-own.rest
