mod WorkedLaws
