mod Ends
mod OneName
mod OneWord
