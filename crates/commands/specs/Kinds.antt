-- The kinds of command: the rows of the page in their order, from 0.
use Rattle.std.specs.Prelude.{ℕ}

abbrev pub reset : ℕ
reset = 0

abbrev pub fill : ℕ
fill = 1

abbrev pub cut : ℕ
cut = 2

abbrev pub poke : ℕ
poke = 3

abbrev pub show : ℕ
show = 4

abbrev pub sum : ℕ
sum = 5

abbrev pub text : ℕ
text = 6

abbrev pub read : ℕ
read = 7

abbrev pub next : ℕ
next = 8

abbrev pub past : ℕ
past = 9

abbrev pub sheet : ℕ
sheet = 10

abbrev pub name : ℕ
name = 11

abbrev pub count : ℕ
count = 12

abbrev pub kind : ℕ
kind = 13

abbrev pub deadline : ℕ
deadline = 14

abbrev pub runs : ℕ
runs = 15

abbrev pub gaps : ℕ
gaps = 16

abbrev pub show_set : ℕ
show_set = 17

abbrev pub test_set : ℕ
test_set = 18

abbrev pub build : ℕ
build = 19

abbrev pub test_table : ℕ
test_table = 20

abbrev pub write : ℕ
write = 21

abbrev pub open_file : ℕ
open_file = 22

abbrev pub print : ℕ
print = 23

abbrev pub start : ℕ
start = 24

abbrev pub ask : ℕ
ask = 25

abbrev pub report : ℕ
report = 26

abbrev pub show_run : ℕ
show_run = 27

abbrev pub age : ℕ
age = 28

abbrev pub job : ℕ
job = 29

abbrev pub no_job : ℕ
no_job = 30

abbrev pub arrived : ℕ
arrived = 31

abbrev pub finished : ℕ
finished = 32

abbrev pub replaced : ℕ
replaced = 33

abbrev pub ticks : ℕ
ticks = 34

abbrev pub substitutions : ℕ
substitutions = 35

abbrev pub reading : ℕ
reading = 36

abbrev pub awaited : ℕ
awaited = 37

abbrev pub nothing_awaited : ℕ
nothing_awaited = 38
